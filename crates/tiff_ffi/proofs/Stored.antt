-- What a sink that keeps the frame of a file of pages contains, when it stores bytes or counts
-- them.
use Rattle.std.proofs.Common.{◌≡◌, ℕ, ◌+◌, ◌-◌, ◌≤◌, ◌<◌, List, [], ◌∷◌, ◌++◌, length, take, drop, sum, ap, sym, ◌∙◌, arith, inl, inr, append_assoc, append-nil, length-append, length-drop}
use Rattle.std.proofs.Math.Seq.{take-add}
use Rattle.std.proofs.lemmas.List.{get_or_past, length-take-le, take_all, take-append-drop}
use Rattle.std.proofs.lemmas.Bool.{cases_lt}
use Rattle.tiff_ffi.specs.Spliced.{samples_at, spliced}
use Rattle.tiff_ffi.proofs.Spliced.{spliced_append, spliced_front}

-- a page that isn't there has no samples
none_there : (samples : List (List ℕ)) (page : ℕ) → length samples ≤ page
    → length (samples_at samples page) ≡ 0
none_there samples page le = ap (λ (l : List ℕ). length l) (get_or_past samples page [] le)

-- a page that has samples is there
pub is_page : (samples : List (List ℕ)) (page : ℕ) → 0 < length (samples_at samples page)
    → page < length samples
is_page samples page some =
    elim (cases_lt page (length samples)) [
      | inl lt ↦ lt
      | inr le ↦ absurd (omega (arith, some, none_there samples page le))
    ]

module _ (around fronts : List ℕ) (samples : List (List ℕ)) (kept : ℕ)
    (in_fronts : sum fronts ≡ kept) (in_around : kept ≤ length around) where
  within : sum fronts ≤ length around
  within = omega (arith, in_fronts, in_around)

  -- more bytes at the end
  pub length_more : (bytes left : List ℕ) → left ≡ around ++ bytes
      → length (spliced left fronts samples) ≡ length (spliced around fronts samples) + length bytes
  length_more bytes left is =
      ap (λ l. length (spliced l fronts samples)) is
      ∙ ap (λ (l : List ℕ). length l) (spliced_append around bytes fronts samples within)
      ∙ length-append (spliced around fronts samples) bytes

  -- they are stored, and no samples are counted
  pub stored : (bytes left next : List ℕ) (count : ℕ) → left ≡ around ++ bytes → count ≡ 0
      → spliced left fronts samples ++ take count next
      ≡ (spliced around fronts samples ++ take count next) ++ bytes
  stored bytes left next count is none =
      let nil : (l : List ℕ) → l ++ take count next ≡ l =
      λ l. ap (λ n. l ++ take n next) none ∙ append-nil l in
      nil (spliced left fronts samples)
      ∙ ap (λ l. spliced l fronts samples) is
      ∙ spliced_append around bytes fronts samples within
      ∙ ap (λ l. l ++ bytes) (sym (nil (spliced around fronts samples)))

  -- the samples that were counted are stored
  pub counted_stored : (next left : List ℕ) (count : ℕ) → left ≡ around ++ take count next
      → spliced left fronts samples ++ take 0 next
      ≡ spliced around fronts samples ++ take count next
  counted_stored next left count is =
      append-nil (spliced left fronts samples)
      ∙ ap (λ l. spliced l fronts samples) is
      ∙ spliced_append around (take count next) fronts samples within

  -- the samples of one more page
  pub page_ended : length fronts < length samples
      → spliced around (fronts ++ (length around - kept) ∷ []) samples
      ≡ spliced around fronts samples ++ samples_at samples (length fronts)
  page_ended lt =
      let a : List ℕ = take kept around in
      let f : List ℕ = drop kept around in
      let size : length a ≡ kept = length-take-le kept around in_around in
      let split : a ++ (f ++ []) ≡ around =
      ap (λ l. a ++ l) (append-nil f) ∙ take-append-drop kept around in
      let before : spliced around fronts samples ≡ spliced a fronts samples ++ f =
      ap (λ l. spliced l fronts samples) (sym (take-append-drop kept around))
      ∙ spliced_append a f fronts samples (omega (arith, size, in_fronts)) in
      ap (λ l. spliced l (fronts ++ (length around - kept) ∷ []) samples) (sym split)
      ∙ spliced_front a f [] fronts (length around - kept) samples (in_fronts ∙ sym size)
      (length-drop kept around) lt
      ∙ ap (λ l. spliced a fronts samples ++ (f ++ l))
      (append-nil (samples_at samples (length fronts)))
      ∙ sym (append_assoc (spliced a fronts samples) f (samples_at samples (length fronts)))
      ∙ ap (λ l. l ++ samples_at samples (length fronts)) (sym before)

  pub length_ended : length fronts < length samples
      → length (spliced around (fronts ++ (length around - kept) ∷ []) samples)
      ≡ length (spliced around fronts samples) + length (samples_at samples (length fronts))
  length_ended lt =
      ap (λ (l : List ℕ). length l) (page_ended lt)
      ∙ length-append (spliced around fronts samples) (samples_at samples (length fronts))

  -- more samples are counted
  pub counted : (next : List ℕ) (count n : ℕ)
      → spliced around fronts samples ++ take (count + n) next
      ≡ (spliced around fronts samples ++ take count next) ++ take n (drop count next)
  counted next count n =
      ap (λ l. spliced around fronts samples ++ l) (take-add count n next)
      ∙ sym (append_assoc (spliced around fronts samples) (take count next)
      (take n (drop count next)))

  -- and then all samples of a page are there
  pub all_counted : (next : List ℕ) (count n : ℕ) → length fronts < length samples
      → count + n ≡ length (samples_at samples (length fronts))
      → spliced around (fronts ++ (length around - kept) ∷ []) samples ++ take 0 next
      ≡ (spliced around fronts samples ++ take count (samples_at samples (length fronts)))
      ++ take n (drop count (samples_at samples (length fronts)))
  all_counted next count n lt all =
      let here : List ℕ = samples_at samples (length fronts) in
      append-nil (spliced around (fronts ++ (length around - kept) ∷ []) samples)
      ∙ page_ended lt
      ∙ ap (λ l. spliced around fronts samples ++ l)
      (sym (take_all (count + n) here (omega (arith, all))))
      ∙ counted here count n
