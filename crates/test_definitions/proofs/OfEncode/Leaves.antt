-- The worked examples of `Encode.Leaves` hold.
use Rattle.std.specs.Prelude.{refl}
use Rattle.std.proofs.Common.{◌≡◌, ℕ, List, [], ◌∷◌, ◌++◌, subst, ap, sym, inl, inr, lit<}
use Rattle.std.specs.Prelude.{get_or}
use Rattle.tiff_base.specs.lemmas.Slices.{ok_inj}
use Rattle.test_definitions.proofs.OfEncode.Model.{unequal}
use Rattle.tiff_base.specs.declared.io.SinkFault.TheVariants as fault
use Rattle.tiff_base.specs.declared.tags.FileKind.TheVariants.{Classic}
use Rattle.tiff_value.specs.Model.{Model, FileContains, header_model, with_link}
use Rattle.tiff_value.specs.WriteOps.{WriteOp, Appended, Linked, model_after}
use Rattle.tiff_value.specs.lemmas.File.Header as its_header
use Rattle.tiff_value.specs.lemmas.File.WriteOps.{ops_stand}
use Rattle.test_definitions.specs.Encode.Calls.{header}
use Rattle.test_definitions.specs.Encode.Leaves as s
use Rattle.tiff.proofs.OnLiterals.{tiff_on_literals}

-- only the appended byte precedes the torn link
before_is : (before : List WriteOp) (offset target : ℕ) → let ops : List WriteOp =
    s.torn_ops in ops ≡ before ++ Linked offset target ∷ [] → before ≡ Appended (1 ∷ []) ∷ []
before_is [] offset target h = absurd cc
before_is (d ∷ []) offset target h = cc
before_is (d ∷ e ∷ []) offset target h = absurd cc
before_is (d ∷ e ∷ f ∷ fs) offset target h = absurd cc

torn_stands : s.left_torn
torn_stands = record {
  torn =
      record { fresh = refl; fault = fault.Device; answer = refl; before = Appended (1 ∷ []) ∷ []; offset = 4; target = 65544; last = refl; count = 2; within = lit< tt; state = refl };
  holds = 8;
  stands =
      ops_stand Classic header (header_model Classic) (Appended (1 ∷ []) ∷ Linked 4 8
      ∷ []) (its_header.header_stands Classic) (tt, ((inl refl, lit< tt), tt));
}

not_broken : s.left_broken
unfolding tiff_on_literals
not_broken (inl t) = unequal 0 8 (lit< tt) (sym (ok_inj 8 0 t.first))
not_broken (inr t) =
    let m : List WriteOp → Model =
    λ before. with_link Classic (model_after Classic header (header_model Classic) before) t.torn.offset t.holds in
    let stands : FileContains Classic (s.torn_file 2).bytes (m (Appended (1 ∷ []) ∷ [])) =
    subst (λ before. FileContains Classic (s.torn_file 2).bytes (m before))
    (before_is t.torn.before t.torn.offset t.torn.target t.torn.last) t.stands in
    unequal 1 2 (lit< tt) (sym (ap (λ xs. get_or xs 0 0) (ok_inj (2 ∷ []) (1 ∷ []) (stands.regions (record { offset = 8; bytes = 1 ∷ [] }) (inl refl)))))

pub left_other : s.left_other
left_other =
    λ t. unequal 7 8 (lit< tt) (sym (ap (λ xs. get_or xs 0 0) (ok_inj (8 ∷ []) (7 ∷ []) (t.regions (record { offset = 8; bytes = 7 ∷ [] }) (inl refl)))))

pub left_torn : s.left_torn
left_torn = torn_stands

pub left_linked : s.left_linked
left_linked = inr torn_stands

pub left_broken : s.left_broken
left_broken = not_broken
