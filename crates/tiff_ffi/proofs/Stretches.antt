-- The stretches of a file of pages that are stored, and what is left when one is overwritten.
use Rattle.std.proofs.Common.{◌≡◌, ℕ, ◌+◌, ◌-◌, ◌≤◌, List, [], ◌∷◌, ◌++◌, length, take, drop, get_or, sum, refl, ap, ap₂, sym, ◌∙◌, arith, append_assoc, append-nil, length-append, length-drop, drop-drop}
use Rattle.std.proofs.Math.Seq.{take-append-add}
use Rattle.std.proofs.lemmas.List.{take-append-le, drop-append-le, length-take-le, take_all, take-append-drop, drop_at, take_more}
use Rattle.std.proofs.lemmas.List.Sums.{sum_by_push}
use Rattle.tiff_base.specs.SourceAndSink.{put}
use Rattle.tiff_ffi.specs.Spliced.{IsStretch, samples_at, spliced}
use Rattle.tiff_ffi.proofs.Spliced.{spliced_append, spliced_front}

length_three : (a f b : List ℕ) → length (a ++ (f ++ b)) ≡ length a + (length f + length b)
length_three a f b = omega (arith, length-append a (f ++ b), length-append f b)

-- ---- which they are

module _ (around fronts : List ℕ) (samples : List (List ℕ)) (kept : ℕ)
    (in_fronts : sum fronts ≡ kept) (in_around : kept ≤ length around) where
  -- the bytes behind all samples
  pub behind_len : (length around - kept) ≤ length (spliced around fronts samples)
  behind_len =
      let a : List ℕ = take kept around in
      let size : length a ≡ kept = length-take-le kept around in_around in
      let le : sum fronts ≤ length a = omega (arith, size, in_fronts) in
      let is = spliced_append a (drop kept around) fronts samples le in
      let whole : length (spliced around fronts samples)
      ≡ length (spliced a fronts samples ++ drop kept around) =
      ap (λ l. length (spliced l fronts samples)) (sym (take-append-drop kept around))
      ∙ ap (λ (l : List ℕ). length l) is in
      omega (
        arith,
        whole,
        length-append (spliced a fronts samples) (drop kept around),
        length-drop kept around,
      )

  pub behind_is : (at len : ℕ) → kept + len ≡ length around
      → at + len ≡ length (spliced around fronts samples)
      → IsStretch around fronts samples at kept len
  behind_is at len all end =
      let a : List ℕ = take kept around in
      let f : List ℕ = drop kept around in
      let size : length a ≡ kept = length-take-le kept around in_around in
      let many : length f ≡ len = omega (arith, length-drop kept around, all) in
      let le : sum fronts ≤ length a = omega (arith, size, in_fronts) in
      let whole : around ≡ a ++ (f ++ []) =
      sym (ap (λ l. a ++ l) (append-nil f) ∙ take-append-drop kept around) in
      let told : length (spliced around fronts samples) ≡ length (spliced a fronts samples
      ++ (f ++ [])) =
      ap (λ l. length (spliced l fronts samples)) whole
      ∙ ap (λ (l : List ℕ). length l) (spliced_append a (f ++ []) fronts samples le) in
      record {
        front = a;
        bytes = f;
        rest = [];
        around_is = whole;
        front_len = size;
        bytes_len = many;
        before = spliced a fronts samples;
        after = [];
        before_len = omega (arith, told, length_three (spliced a fronts samples) f [], many, end);
        is = λ over _. spliced_append a (over ++ []) fronts samples le;
      }

  -- the bytes in front of the last samples that are all there
  module _ (page n : ℕ) (last : page + 1 ≡ length fronts)
      (in_pages : length fronts ≤ length samples) (here : n ≡ get_or fronts page 0) where
    abbrev early : List ℕ
    early = take page fronts

    fronts_are : fronts ≡ early ++ n ∷ []
    fronts_are =
        sym (take_all (page + 1) fronts (omega (arith, last)))
        ∙ take_more fronts page 0 (omega (arith, last)) ∙ ap (λ m. early ++ m ∷ []) (sym here)

    early_len : length early ≡ page
    early_len = length-take-le page fronts (omega (arith, last))

    sums : sum early + n ≡ kept
    sums = sym (sum_by_push (λ x. x) early n) ∙ ap (λ l. sum l) (sym fronts_are) ∙ in_fronts

    abbrev front : List ℕ
    front = take (sum early) around

    abbrev bytes : List ℕ
    bytes = take n (drop (sum early) around)

    abbrev rest : List ℕ
    rest = drop kept around

    front_size : length front ≡ sum early
    front_size = length-take-le (sum early) around (omega (arith, sums, in_around))

    bytes_size : length bytes ≡ n
    bytes_size =
        length-take-le n (drop (sum early) around)
        (omega (arith, sums, in_around, length-drop (sum early) around))

    whole : around ≡ front ++ (bytes ++ rest)
    whole =
        sym (ap (λ l. front ++ (bytes ++ l))
        (ap (λ m. drop m around) (sym sums) ∙ sym (drop-drop n (sum early) around))
        ∙ ap (λ l. front ++ l) (take-append-drop n (drop (sum early) around))
        ∙ take-append-drop (sum early) around)

    spliced_is : (over : List ℕ) → length over ≡ n
        → spliced (front ++ (over ++ rest)) fronts samples
        ≡ spliced front early samples ++ (over ++ (samples_at samples page ++ rest))
    spliced_is over as_long =
        ap (λ l. spliced (front ++ (over ++ rest)) l samples) fronts_are
        ∙ spliced_front front over rest early n samples (sym front_size) as_long
        (omega (arith, early_len, last, in_pages))
        ∙ ap (λ k. spliced front early samples ++ (over ++ (samples_at samples k ++ rest)))
        early_len

    pub front_end : length (spliced around fronts samples) ≡ length (spliced front early samples)
        + (n + (length (samples_at samples page) + (length around - kept)))
    front_end =
        let is : length (spliced around fronts samples) ≡ length (spliced front early samples
        ++ (bytes ++ (samples_at samples page ++ rest))) =
        ap (λ l. length (spliced l fronts samples)) whole
        ∙ ap (λ (l : List ℕ). length l) (spliced_is bytes bytes_size) in
        omega (
          arith,
          is,
          length_three (spliced front early samples) bytes (samples_at samples page
              ++ rest),
          length-append (samples_at samples page) rest,
          bytes_size,
          length-drop kept around,
        )

    pub front_is : (at : ℕ) → at + (n + (length (samples_at samples page)
        + (length around - kept))) ≡ length (spliced around fronts samples)
        → IsStretch around fronts samples at (kept - n) n
    front_is at end = record {
      front = front;
      bytes = bytes;
      rest = rest;
      around_is = whole;
      front_len = omega (arith, front_size, sums);
      bytes_len = bytes_size;
      before = spliced front early samples;
      after = samples_at samples page ++ rest;
      before_len = omega (arith, end, front_end);
      is = spliced_is;
    }

-- ---- one is overwritten

length_put : (bytes : List ℕ) (k : ℕ) (over : List ℕ) → k + length over ≤ length bytes
    → length (put bytes k over) ≡ length bytes
length_put bytes k over fit =
    omega (
      arith,
      fit,
      length_three (take k bytes) over (drop (k + length over) bytes),
      length-take-le k bytes (omega (arith, fit)),
      length-drop (k + length over) bytes,
    )

put_part : (a f c : List ℕ) (k : ℕ) (over : List ℕ) → k + length over ≤ length f
    → put (a ++ (f ++ c)) (length a + k) over ≡ a ++ (put f k over ++ c)
put_part a f c k over fit =
    let till : take (length a + k) (a ++ (f ++ c)) ≡ a ++ take k f =
    take-append-add a (f ++ c) k
    ∙ ap (λ l. a ++ l) (take-append-le k f c (omega (arith, fit))) in
    let from : drop ((length a + k) + length over) (a ++ (f ++ c)) ≡ drop (k + length over) f ++ c =
    ap (λ n. drop n (a ++ (f ++ c))) (let e : (length a + k) + length over ≡ length a
    + (k + length over) = omega arith in e)
    ∙ sym (drop-drop (k + length over) (length a) (a ++ (f ++ c)))
    ∙ ap (drop (k + length over)) (drop_at a (f ++ c) (length a) refl)
    ∙ drop-append-le (k + length over) f c fit in
    ap₂ (λ xs ys. xs ++ (over ++ ys)) till from
    ∙ append_assoc a (take k f) (over ++ (drop (k + length over) f ++ c))
    ∙ ap (λ l. a ++ (take k f ++ l)) (sym (append_assoc over (drop (k + length over) f) c))
    ∙ ap (λ l. a ++ l) (sym (append_assoc (take k f) (over ++ drop (k + length over) f) c))

module _ (around fronts : List ℕ) (samples : List (List ℕ)) (at from len : ℕ)
    (s : IsStretch around fronts samples at from len) (q : ℕ) (over : List ℕ) (behind : at ≤ q)
    (fit : q + length over ≤ at + len) where
  in_part : (q - at) + length over ≤ length s.bytes
  in_part = let b = s.bytes_len in omega (arith, behind, fit, b)

  -- within the bytes that aren't samples
  pub in_bytes : (from + (q - at)) + length over ≤ length around
  in_bytes =
      let w : length around ≡ length (s.front ++ (s.bytes ++ s.rest)) =
      ap (λ (l : List ℕ). length l) s.around_is in
      let f = s.front_len in
      omega (arith, w, length_three s.front s.bytes s.rest, f, in_part)

  abbrev part : List ℕ
  part = put s.bytes (q - at) over

  part_len : length part ≡ len
  part_len = length_put s.bytes (q - at) over in_part ∙ s.bytes_len

  module _ (left : List ℕ) (is : left ≡ put around (from + (q - at)) over) where
    left_is : spliced left fronts samples ≡ s.before ++ (part ++ s.after)
    left_is =
        ap (λ l. spliced l fronts samples)
        (is ∙ ap₂ (λ l n. put l (n + (q - at)) over) s.around_is (sym s.front_len)
        ∙ put_part s.front s.bytes s.rest (q - at) over in_part)
        ∙ s.is part part_len

    around_is : spliced around fronts samples ≡ s.before ++ (s.bytes ++ s.after)
    around_is = ap (λ l. spliced l fronts samples) s.around_is ∙ s.is s.bytes s.bytes_len

    pub same_len : length (spliced left fronts samples) ≡ length (spliced around fronts samples)
    same_len =
        let b : length part ≡ length s.bytes = length_put s.bytes (q - at) over in_part in
        let l : length (spliced left fronts samples) ≡ length (s.before ++ (part ++ s.after)) =
        ap (λ (l : List ℕ). length l) left_is in
        let r : length (spliced around fronts samples) ≡ length (s.before
        ++ (s.bytes ++ s.after)) =
        ap (λ (l : List ℕ). length l) around_is in
        omega (
          arith,
          l,
          r,
          b,
          length_three s.before part s.after,
          length_three s.before s.bytes s.after,
        )

    -- the other bytes stay as they were
    pub overwritten : (more : List ℕ) → spliced left fronts samples ++ more
        ≡ put (spliced around fronts samples ++ more) q over
    overwritten more =
        let joined : (l : List ℕ) → (s.before ++ (l ++ s.after)) ++ more ≡ s.before
        ++ (l ++ (s.after ++ more)) =
        λ l. append_assoc s.before (l ++ s.after) more
        ∙ ap (λ m. s.before ++ m) (append_assoc l s.after more) in
        let place : q ≡ length s.before + (q - at) =
        let b = s.before_len in omega (arith, b, behind) in
        ap (λ l. l ++ more) left_is
        ∙ joined part
        ∙ sym (put_part s.before s.bytes (s.after ++ more) (q - at) over in_part)
        ∙ ap (λ n. put (s.before ++ (s.bytes ++ (s.after ++ more))) n over) (sym place)
        ∙ ap (λ l. put l q over) (sym (joined s.bytes))
        ∙ ap (λ l. put (l ++ more) q over) (sym around_is)
