-- The samples of a file that an encoder goes on behind are shown as before.
use Rattle.std.proofs.Common.{◌≡◌, ℕ, ◌+◌, ◌-◌, ◌*◌, ◌^◌, ◌%◌, ◌≤◌, List, length, take, false, refl, ap, sym, ◌∙◌, inl, inr, subst, arith, length-append}
use Rattle.std.specs.Prelude.{nat_lt, slice_index}
use Rattle.std.proofs.lemmas.Bool.Decides.{nat_tests}
use Rattle.std.proofs.lemmas.List.{drop-drop}
use Rattle.tiff_base.specs.declared.tags.FileKind.{FileKind}
use Rattle.tiff_base.specs.declared.tags.ByteOrder.TheVariants.{LittleEndian}
use Rattle.tiff_base.specs.declared.tags.CompressionMethod.{CompressionMethod}
use Rattle.tiff_base.specs.declared.tags.CompressionMethod.TheVariants as method
use Rattle.tiff_base.specs.Runs.{runs}
use Rattle.tiff_base.specs.SourceAndSink.{bytes_at, put}
use Rattle.tiff_page.specs.Page.{PageRecord}
use Rattle.tiff_page.specs.Methods.{data_by_method}
use Rattle.tiff_page.specs.Pixels.{planar_or, stored_row_bytes, stored_row, number_of_row, in_row, shown_number, shown_sample}
use Rattle.tiff_page.specs.Rect.{chunk_of_pixel}
use Rattle.tiff_encode.specs.Appending.{Continues}
use Rattle.tiff_value.specs.FileBytes.{offset_len}
use Rattle.tiff_encode.specs.FormerPages.{AreBytesClear, IsRowClear, FormerSamplesStay}
use Rattle.tiff_base.specs.lemmas.Slices.{exact, is_exact, length_put}
use Rattle.tiff_encode.specs.lemmas.GoingOn.{bytes_stay}

not_less : (a b : ℕ) → b ≤ a → nat_lt a b ≡ false
not_less a b h = grind (arith, nat_tests)

module _ (kind : FileKind) (q : ℕ) (file new : List ℕ) (room : q + offset_len kind ≤ length file)
    (on : Continues kind q file new) where
  -- the new file is as long at least
  longer : length file ≤ length new
  longer =
      let size = length_put file q on.over (omega (arith, on.whole, room)) in
      let long : length new ≡ length (put file q on.over) + length on.more =
      ap length on.bytes ∙ length-append (put file q on.over) on.more in
      omega (arith, size, long)

  -- bytes apart from the link are the same
  same_there : (at n : ℕ) → AreBytesClear kind file q at n → bytes_at new at n ≡ bytes_at file at n
  same_there at n c =
      let s : List ℕ = bytes_at file at n in
      (is_exact new at n s (bytes_stay kind q file new room on at n s c.1 (exact file at n s (omega (arith, c.0)) refl))).1

  -- a row of a chunk that isn't compressed
  plain_row : (offset count at n : ℕ) → AreBytesClear kind file q (offset + at) n
      → bytes_at (data_by_method new method.None offset count) at n
      ≡ bytes_at (data_by_method file method.None offset count) at n
  plain_row offset count at n c =
      ap (take n) (drop-drop at offset new) ∙ same_there (offset + at) n c
      ∙ sym (ap (take n) (drop-drop at offset file))

  -- the data of a chunk of PackBits data
  packed_data : (offset count : ℕ) → AreBytesClear kind file q offset count
      → data_by_method new method.PackBits offset count
      ≡ data_by_method file method.PackBits offset count
  packed_data offset count c =
      let a : nat_lt (length new - offset) count ≡ false =
      not_less (length new - offset) count (omega (arith, c.0, longer)) in
      let b : nat_lt (length file - offset) count ≡ false =
      not_less (length file - offset) count (omega (arith, c.0)) in
      let s = same_there offset count c in
      λ i. (runs ((a ∙ sym b) i) (s i)).out

  -- a row of a chunk
  row_stays : (p : PageRecord) (chunk row : ℕ) → IsRowClear kind file q p chunk row
      → stored_row new LittleEndian p chunk row ≡ stored_row file LittleEndian p chunk row
  row_stays p chunk row c =
      let offset : ℕ = slice_index p.offsets chunk in
      let count : ℕ = slice_index p.byte_counts chunk in
      let n : ℕ = stored_row_bytes p in
      let Same : CompressionMethod → Type 0 =
      λ m. bytes_at (data_by_method new m offset count) (row * n) n
      ≡ bytes_at (data_by_method file m offset count) (row * n) n in
      elim c as (λ _. Same p.method) [
        | inl w ↦ subst Same (sym w.0) (plain_row offset count (row * n) n w.1)
        | inr w ↦ subst Same (sym w.0) (ap (λ d. bytes_at d (row * n) n) (packed_data offset count w.1))
      ]

pub former_samples_stay : FormerSamplesStay
unfolding shown_sample
former_samples_stay kind q file new room on p x y sample c =
    ap (λ r. shown_number p.interpretation (2 ^ p.depth) (number_of_row LittleEndian p r (in_row p (x % p.chunk_width) (planar_or p.planar 0 sample))))
    (row_stays kind q file new room on p (chunk_of_pixel p (planar_or p.planar sample 0) x y) (y % p.chunk_height) c)
