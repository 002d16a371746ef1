-- The worked examples of `Ifd.IfdChainWalk` hold.
use Rattle.std.specs.Prelude.{refl, drop, length}
use Rattle.std.proofs.Common.{◌≡◌, ℕ, ◌≤◌, List, [], ◌∷◌, Option, Some, None, Result, ap, sym, ◌∙◌, subst, arith}
use Rattle.std.proofs.lemmas.Bool.{false≢true}
use Rattle.std.proofs.lemmas.Option.{none-some}
use Rattle.tiff_base.specs.declared.error.TiffError.{TiffError}
use Rattle.tiff_base.specs.declared.tags.ByteOrder.TheVariants.{LittleEndian}
use Rattle.tiff_base.specs.declared.tags.FileKind.TheVariants.{Classic}
use Rattle.tiff_ifd.specs.Chain.{link_from, IsChain}
use Rattle.tiff_ifd.specs.Stretches.{LinkReadable}
use Rattle.tiff_ifd.specs.IfdChainWalk.{ChainBegins}
use Rattle.test_definitions.specs.Decoders.{three_file}
use Rattle.test_definitions.proofs.OfIfd.Stretches as stretches
use Rattle.test_definitions.proofs.OfIfd.Stretches.{count_in}
use Rattle.test_definitions.proofs.Stretches.{in_first}
use Rattle.test_definitions.specs.Ifd.IfdChainWalk as s
use Rattle.tiff.proofs.OnLiterals.{tiff_on_literals}

abbrev pub offset_of : Option ℕ → ℕ
offset_of (Some offset) = offset
offset_of None = 0

pub begins_none : s.begins_none
unfolding tiff_on_literals
begins_none =
    record { linked = refl; rest = 8 ∷ 14 ∷ 20 ∷ []; offsets = refl; goes_on = (refl, Some 14, refl, (refl, Some 20, refl, (refl, None, refl, refl))) }

pub begins_one : s.begins_one
unfolding tiff_on_literals
begins_one =
    record { linked = refl; rest = 14 ∷ 20 ∷ []; offsets = refl; goes_on = (refl, Some 20, refl, (refl, None, refl, refl)) }

-- ---- bytes that walks take

pub whole_needed_link : s.whole_needed_link
whole_needed_link = λ r. stretches.directory_with_link (r.directory 0 refl)

pub whole_needed_entry : s.whole_needed_entry
unfolding tiff_on_literals
whole_needed_entry =
    λ r. false≢true ((r.directory 0 refl).entries 1 refl 2 (omega arith) (omega arith))

pub link_needed_all : s.link_needed_all
unfolding tiff_on_literals
link_needed_all = λ r. false≢true ((r.link 0 refl).link 1 refl 14 (omega arith) (omega arith))

module _ (link : ℕ → Result (Option ℕ) TiffError) where
  -- a chain that goes on continues at its next offset
  pub goes_on : (met : List ℕ) (next : Option ℕ) (offset : ℕ) (rest : List ℕ)
      (end : Option TiffError) → IsChain link met next (offset ∷ rest) end → next ≡ Some offset
  goes_on met None offset rest end h = absurd h
  goes_on met (Some n) offset rest end h = ap Some (sym h.0)

  -- a chain that ends without an error has no next offset
  pub ends_there : (met : List ℕ) (next : Option ℕ) → IsChain link met next [] None → next ≡ None
  ends_there met None h = refl
  ends_there met (Some n) h = absurd (none-some h.0 h.2)

-- the first two of three directories are read
first_read : LinkReadable s.two_of_three Classic LittleEndian 8
unfolding tiff_on_literals
first_read = record {
  count = λ k l h. in_first 8 12 [] k l (omega (arith, h));
  link = λ n e k l h.
      let none : 0 ≡ n = ap count_in e in
      in_first 8 12 [] k (omega (arith, l, none)) (omega (arith, h, none));
}

second_read : LinkReadable s.two_of_three Classic LittleEndian 14
unfolding tiff_on_literals
second_read = record {
  count = λ k l h. in_first 8 12 [] k (omega (arith, l)) (omega (arith, h));
  link = λ n e k l h.
      let none : 0 ≡ n = ap count_in e in
      in_first 8 12 [] k (omega (arith, l, none)) (omega (arith, h, none));
}

-- a walk with at most one offset has the first or the second directory as its next
first_two : (offsets : List ℕ) (next : Option ℕ)
    → ChainBegins Classic LittleEndian three_file 8 (record { offsets = offsets; next = next })
    → length offsets ≤ 1
    → (at : ℕ) → next ≡ Some at → LinkReadable s.two_of_three Classic LittleEndian at
unfolding tiff_on_literals
first_two [] next b l at n =
    let link = link_from Classic LittleEndian three_file in
    let on : IsChain link [] next (8 ∷ 14 ∷ 20 ∷ []) None =
    subst (λ rest. IsChain link [] next rest None) (sym b.offsets) b.goes_on in
    subst (λ p. LinkReadable s.two_of_three Classic LittleEndian p)
    (ap offset_of (sym (goes_on link [] next 8 (14 ∷ 20 ∷ []) None on) ∙ n)) first_read
first_two (x ∷ []) next b l at n =
    let link = link_from Classic LittleEndian three_file in
    let on : IsChain link (x ∷ []) next (14 ∷ 20 ∷ []) None =
    subst (λ rest. IsChain link (x ∷ []) next rest None) (sym (ap (drop 1) b.offsets)) b.goes_on in
    subst (λ p. LinkReadable s.two_of_three Classic LittleEndian p)
    (ap offset_of (sym (goes_on link (x ∷ []) next 14 (20 ∷ []) None on) ∙ n)) second_read
first_two (x ∷ y ∷ zs) next b l at n = absurd (omega (arith, l))

pub way_to_second : s.way_to_second
way_to_second = record { link = λ w b l. record { link = first_two w.offsets w.next b l } }

pub way_to_third : s.way_to_third
unfolding tiff_on_literals
way_to_third = λ r.
    let begins : ChainBegins Classic LittleEndian three_file 8 s.two_entered =
    record { linked = refl; rest = 20 ∷ []; offsets = refl; goes_on = (refl, None, refl, refl) } in
    false≢true (((r.link s.two_entered begins (omega arith)).link 20 refl).count 20 (omega arith) (omega arith))

pub ruleset worked = (
  begins_none,
  begins_one,
  whole_needed_link,
  whole_needed_entry,
  link_needed_all,
  way_to_second,
  way_to_third,
)
