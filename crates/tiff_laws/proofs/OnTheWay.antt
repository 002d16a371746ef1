-- The counts and the links on a way along the chain.
use Rattle.std.proofs.Common.{◌≡◌, ℕ, zero, suc, ◌+◌, ◌*◌, ◌<◌, ◌≤◌, List, [], ◌∷◌, ◌++◌, length, Option, None, Some, Result, Ok, Err, refl, ap, sym, ◌∙◌, subst, ⊎_elim, arith}
use Rattle.std.proofs.lemmas.Bool.{cases_lt}
use Rattle.std.specs.Int.{byte_len}
use Rattle.std.specs.List.{last_or, slice_get}
use Rattle.tiff_base.specs.declared.error.TiffError.{TiffError}
use Rattle.tiff_base.specs.declared.tags.ByteOrder.{ByteOrder}
use Rattle.tiff_base.specs.declared.tags.FileKind.{FileKind}
use Rattle.tiff_base.specs.declared.tags.FileKind.TheVariants.{Classic, Big}
use Rattle.tiff_base.specs.Directory.{count_width, link_offset, offset_width}
use Rattle.tiff_base.specs.Number.{number_at}
use Rattle.tiff_base.specs.SourceAndSink.{SourceRecord}
use Rattle.tiff_ifd.specs.Chain.{chain}
use Rattle.tiff_ifd.specs.Stretches.{LinkReadable}
use Rattle.tiff_ifd.specs.IfdChainWalk.{ChainBegins, NextLinkReadable, Walked, link_behind}
use Rattle.tiff_ifd.specs.lemmas.Begun.{offset_begun}
use Rattle.tiff_laws.specs.Costs as spec
use Rattle.tiff_laws.specs.Costs.{AreAllReadable, stretch_bytes}

-- ---- stretches one after another

pub bytes_of_both : (xs ys : List (ℕ × ℕ))
    → stretch_bytes (xs ++ ys) ≡ stretch_bytes xs + stretch_bytes ys
bytes_of_both [] ys = omega arith
bytes_of_both (x ∷ xs) ys = omega (arith, bytes_of_both xs ys)

pub front_read : (source : SourceRecord) (xs ys : List (ℕ × ℕ)) → AreAllReadable source (xs ++ ys)
    → AreAllReadable source xs
front_read source [] ys a = tt
front_read source (x ∷ xs) ys a = (a.0, front_read source xs ys a.1)

pub rest_read : (source : SourceRecord) (xs ys : List (ℕ × ℕ)) → AreAllReadable source (xs ++ ys)
    → AreAllReadable source ys
rest_read source [] ys a = a
rest_read source (x ∷ xs) ys a = rest_read source xs ys a.1

-- ---- the count and the link of a directory

abbrev link_of : FileKind → ℕ → Result ℕ TiffError → List (ℕ × ℕ)
link_of kind at (Ok n) = (link_offset kind at n, byte_len (offset_width kind)) ∷ []
link_of kind at (Err e) = []

abbrev link_stretches : FileKind → ByteOrder → List ℕ → ℕ → List (ℕ × ℕ)
link_stretches kind order bytes at =
    (at, byte_len (count_width kind))
    ∷ link_of kind at (number_at order (count_width kind) bytes at)

widths : (kind : FileKind) → byte_len (count_width kind) + byte_len (offset_width kind) ≤ 16
widths Classic =
    let c : byte_len (count_width Classic) ≡ 2 =
    refl in let o : byte_len (offset_width Classic) ≡ 4 = refl in omega (arith, c, o)
widths Big =
    let c : byte_len (count_width Big) ≡ 8 =
    refl in let o : byte_len (offset_width Big) ≡ 8 = refl in omega (arith, c, o)

few_of : (kind : FileKind) (at : ℕ) (r : Result ℕ TiffError)
    → byte_len (count_width kind) + stretch_bytes (link_of kind at r) ≤ 16
few_of kind at (Ok n) = omega (arith, widths kind)
few_of kind at (Err e) = omega (arith, widths kind)

link_read : (source : SourceRecord) (kind : FileKind) (order : ByteOrder) (at : ℕ)
    → AreAllReadable source (link_stretches kind order source.bytes at)
    → LinkReadable source kind order at
link_read source kind order at a = record {
  count = a.0;
  link =
      λ n e. (subst (λ (r : Result ℕ TiffError). AreAllReadable source (link_of kind at r)) e a.1).0;
}

-- ---- the way

last_none : (offsets : List ℕ) → length offsets ≤ 0 → last_or None offsets ≡ None
last_none [] h = refl
last_none (p ∷ offsets) h = absurd (omega (arith, h))

last_is : (before : Option ℕ) (offsets : List ℕ) (i : ℕ) → length offsets ≡ suc i
    → last_or before offsets ≡ slice_get offsets i
last_is before [] i h = absurd (omega (arith, h))
last_is before (p ∷ []) zero h = refl
last_is before (p ∷ []) (suc i) h = absurd (omega (arith, h))
last_is before (p ∷ q ∷ offsets) zero h = absurd (omega (arith, h))
last_is before (p ∷ q ∷ offsets) (suc i) h = last_is (Some p) (q ∷ offsets) i (omega (arith, h))

module _ (kind : FileKind) (order : ByteOrder) (bytes : List ℕ) (first : ℕ) where
  abbrev of_link : Result (Option ℕ) TiffError → List (ℕ × ℕ)
  of_link (Ok (Some at)) = link_stretches kind order bytes at
  of_link (Ok None) = []
  of_link (Err e) = []

  few_of_link : (r : Result (Option ℕ) TiffError) → stretch_bytes (of_link r) ≤ 16
  few_of_link (Ok (Some at)) = few_of kind at (number_at order (count_width kind) bytes at)
  few_of_link (Ok None) = omega arith
  few_of_link (Err e) = omega arith

  -- after the directory that was entered last, or before the first
  abbrev behind : Option ℕ → List (ℕ × ℕ)
  behind before = of_link (link_behind kind order bytes first before)

  abbrev way : ℕ → List (ℕ × ℕ)
  way zero = behind None
  way (suc i) = way i ++ behind (slice_get (chain kind order bytes first).offsets i)

  few : (i : ℕ) → stretch_bytes (way i) ≤ 16 * (i + 1)
  few zero = let h = few_of_link (link_behind kind order bytes first None) in omega (arith, h)
  few (suc i) =
      let next : List (ℕ × ℕ) = behind (slice_get (chain kind order bytes first).offsets i) in
      let h =
      few_of_link (link_behind kind order bytes first (slice_get (chain kind order bytes first).offsets i)) in
      omega (arith, few i, h, bytes_of_both (way i) next)

module _ (source : SourceRecord) (kind : FileKind) (order : ByteOrder) (first : ℕ) where
  next_read : (walk : Walked) (before : Option ℕ) → ChainBegins kind order source.bytes first walk
      → last_or None walk.offsets ≡ before
      → AreAllReadable source (behind kind order source.bytes first before)
      → NextLinkReadable source kind order walk
  next_read walk before b e a = record {
    link = λ at n.
        let l : link_behind kind order source.bytes first before ≡ Ok (Some at) =
        ap (link_behind kind order source.bytes first) (sym e) ∙ b.linked
        ∙ ap (λ (x : Option ℕ). Ok x) n in
        link_read source kind order at (subst (λ (r : Result (Option ℕ) TiffError). AreAllReadable source (of_link kind order source.bytes first r)) l a);
  }

  way_read : (i : ℕ) → AreAllReadable source (way kind order source.bytes first i) → (walk : Walked)
      → ChainBegins kind order source.bytes first walk
      → length walk.offsets ≤ i → NextLinkReadable source kind order walk
  way_read zero a walk b l = next_read walk None b (last_none walk.offsets l) a
  way_read (suc i) a walk b l =
      let next : List (ℕ × ℕ) =
      behind kind order source.bytes first (slice_get (chain kind order source.bytes first).offsets i) in
      ⊎_elim
      (λ (h : i < length walk.offsets).
      let e : last_or None walk.offsets
      ≡ slice_get (chain kind order source.bytes first).offsets i =
      last_is None walk.offsets i (omega (arith, h, l))
      ∙ sym (offset_begun kind order source.bytes first walk i h b) in
      next_read walk (slice_get (chain kind order source.bytes first).offsets i) b e (rest_read source (way kind order source.bytes first i) next a))
      (λ (h : length walk.offsets ≤ i). way_read i (front_read source (way kind order source.bytes first i) next a) walk b h)
      (cases_lt i (length walk.offsets))

pub way_costs : spec.WayCosts
way_costs kind order bytes first index = (
  way kind order bytes first index,
  (
    few kind order bytes first index,
    λ source same a.
        let here : List ℕ → Type 0 = λ bs. AreAllReadable source (way kind order bs first index) in
        record { link = λ walk b l. way_read source kind order first index (subst here (sym same) a) walk b l },
  ),
)
