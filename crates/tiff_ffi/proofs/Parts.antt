-- The parts of a file that aren't elsewhere in memory, put into a buffer one behind the other.
use Rattle.std.proofs.Common.{◌≡◌, ℕ, ◌+◌, ◌≤◌, ◌⊎◌, inl, inr, List, ◌++◌, length, take, drop, Ok, refl, sym, ap, ap₂, subst, ◌∙◌, arith, length-append, append-nil, take_at, drop_at, drop-drop}
use Rattle.std.proofs.lemmas.List.{take_all}
use Rattle.tiff_ffi.specs.declared.frame.FrameLengths.{FrameLengths}
use Rattle.tiff_ffi.specs.declared.frame.NewFile.{NewFile}
use Rattle.tiff_ffi.specs.declared.frame.NewFile.TheVariants.{Around, Whole}
use Rattle.tiff_ffi.specs.Frame.{IsAround, behind_of, file_of, front_of, samples_of}
use Rattle.tiff_ffi.specs.Writer.{DeliversParts, joined_parts}

-- a file is its parts
parts_of : (file : NewFile) → front_of file ++ (samples_of file ++ behind_of file) ≡ file_of file
parts_of (Whole file) = append-nil file.items
parts_of (Around frame) = refl

parts_len : (file : NewFile) → length (front_of file)
    + (length (samples_of file) + length (behind_of file)) ≡ length (file_of file)
parts_len file =
    omega (
      arith,
      length-append (front_of file) (samples_of file ++ behind_of file),
      length-append (samples_of file) (behind_of file),
      ap length (parts_of file),
    )

-- all samples that were passed are elsewhere, or none
which : (samples : List ℕ) (file : NewFile) → IsAround samples file
    → (length (samples_of file) ≡ 0) ⊎ (length (samples_of file) ≡ length samples)
which samples (Whole file) around = inl refl
which samples (Around frame) around = inr (ap length around)

passed : (samples : List ℕ) (file : NewFile) → IsAround samples file
    → take (length (samples_of file)) samples ≡ samples_of file
passed samples (Whole file) around = refl
passed samples (Around frame) around =
    let n : length samples ≤ length frame.samples.now = omega (arith, ap length around) in
    take_all (length frame.samples.now) samples n ∙ sym around

module _ (file : NewFile) (samples old new : List ℕ) (len : FrameLengths)
    (f : len.front ≡ length (front_of file)) (s : len.samples ≡ length (samples_of file))
    (b : len.behind ≡ length (behind_of file)) (is : new ≡ front_of file ++ (behind_of file ++ drop (length (front_of file) + length (behind_of file)) old)) where
  abbrev rest : List ℕ
  rest = drop (length (front_of file) + length (behind_of file)) old

  behind_front : drop len.front new ≡ behind_of file ++ rest
  behind_front =
      ap (drop len.front) is ∙ drop_at (front_of file) (behind_of file ++ rest) len.front (sym f)

  joined : IsAround samples file → joined_parts len samples new ≡ file_of file
  joined around =
      let a : take len.front new ≡ front_of file =
      ap (take len.front) is ∙ take_at (front_of file) (behind_of file
      ++ rest) len.front (sym f) in
      let m : take len.samples samples ≡ samples_of file =
      ap (λ n. take n samples) s ∙ passed samples file around in
      let e : take len.behind (drop len.front new) ≡ behind_of file =
      ap (take len.behind) behind_front ∙ take_at (behind_of file) rest len.behind (sym b) in
      ap₂ (λ xs ys. xs ++ ys) a (ap₂ (λ xs ys. xs ++ ys) m e) ∙ parts_of file

  left : drop (len.front + len.behind) new ≡ drop (len.front + len.behind) old
  left =
      sym (drop-drop len.behind len.front new)
      ∙ ap (drop len.behind) behind_front
      ∙ drop_at (behind_of file) rest len.behind (sym b)
      ∙ ap₂ (λ n m. drop (n + m) old) (sym f) (sym b)

  pub parts_put : (status : ℕ) (old_len : FrameLengths) → len.front + len.behind ≤ length old
      → status ≡ 0 → IsAround samples file
      → DeliversParts (Ok (file_of file)) samples status old new old_len len
  parts_put status old_len fits done around = (
    omega (arith, parts_len file, f, s, b),
    (
      subst (λ n. (n ≡ 0) ⊎ (n ≡ length samples)) (sym s) (which samples file around),
      inl (fits, (done, (joined around, left))),
    ),
  )
