-- Steps of the proof of `as_buffer`: making a lent slice into a buffer.
use mathlib.Core.Path.{◌≡◌, refl, sym}
use mathlib.Core.List.{List, [], ◌∷◌}
use Prim.Native.Nat.{ℕ}
use seplogic.Ra.Ura.{Ura}
use mir.Val.{Val, vcons, vnil, of_list}
use mir.Syntax.{Body}
use base.Logic.{ent}
use base.Fml.{Fml, feq, fex, fsep}
use prog.Wp.{Calls, Loops, Env, Wp, after_seq}
use types.Logic.{Logic, sem}
use types.Kit.{‵, Post, any_q, post, ◌$◌, ◌∵◌, !, qed, move, rewrite, fjoin, fpack, feq_i, done}
use types.Match.{live}
use denote.RattleType.{RattleType, Valss, owns}
use denote.Enum.Enum.{in_a_row}
use denote.Steps.{nothing}
use Rattle.tiff_page.specs.declared.layout.DecodingSampleType.{DecodingSampleType}
use Rattle.tiff_page.specs.declared.layout.DecodingSampleType.TheVariants as type

-- what the variant k owns, where its one field is s of the row S
abbrev pub one_field : (S : RattleType) → ℕ → S.Denot → List Val → List Val → Fml
one_field S k s vs us =
    fsep (feq (List Val) vs (live k (of_list us)
    ∷ [])) (fex (Valss (S ∷ [])) (in_a_row (S ∷ []) (owns (S ∷ []) (s, tt)) us))

module _ {M : Type 1} {𝓤 : Ura M} (𝓛 : Logic 𝓤) (E S : RattleType) (k : ℕ) (d : E.Denot) (s : S.Denot)
    (is : (vs : List Val) → E.own_val d vs ≡ fex (List Val) (one_field S k s vs)) where
  -- a value becomes the one field of an enum's variant
  pub wraps : (w : Val) → ent 𝓤 (sem 𝓛 (S.own_val s (w
      ∷ []))) (sem 𝓛 (E.own_val d (live k (vcons w vnil) ∷ [])))
  wraps w =
      let u = live k (vcons w vnil) ∷ [] in
      qed 𝓛 (‵ (S.own_val s (w ∷ [])) ∷ []) ∵
      nothing ! $ move ! (1 ∷ 0 ∷ []) $ fjoin ! $ feq_i ! (List Val) (w ∷ []) (w
      ∷ []) refl $ fjoin ! $
      fpack ! (Valss (S ∷ [])) (in_a_row (S ∷ []) (owns (S ∷ []) (s, tt)) (w ∷ [])) (w ∷ [], tt) $
      feq_i ! (List Val) u u refl $ fjoin ! $ fpack ! (List Val) (one_field S k s u) (w ∷ []) $
      rewrite ! 0 (λ (G : Fml). ‵ G) (sym (is u)) refl $ done !

module _ {M : Type 1} {𝓤 : Ura M} (𝓛 : Logic 𝓤) where
  open 𝓛 use {H}

  -- what runs after an arm
  abbrev pub then_runs : Calls 𝓤 H → Loops 𝓤 H → Env 𝓤 H → Body → Post 𝓤 H → Post 𝓤 H
  then_runs C Λ E b q = any_q (after_seq 𝓤 H (Wp 𝓤 H C Λ E b (post 𝓤 H q)) (post 𝓤 H q))

-- a number type is one of eleven
pub by_kind : {A : Type 1} (k : DecodingSampleType) → (k ≡ type.U8 → A) → (k ≡ type.U16 → A)
    → (k ≡ type.U32 → A) → (k ≡ type.U64 → A) → (k ≡ type.F16 → A) → (k ≡ type.F32 → A)
    → (k ≡ type.F64 → A) → (k ≡ type.I8 → A) → (k ≡ type.I16 → A) → (k ≡ type.I32 → A)
    → (k ≡ type.I64 → A) → A
by_kind type.U8 a0 a1 a2 a3 a4 a5 a6 a7 a8 a9 a10 = a0 refl
by_kind type.U16 a0 a1 a2 a3 a4 a5 a6 a7 a8 a9 a10 = a1 refl
by_kind type.U32 a0 a1 a2 a3 a4 a5 a6 a7 a8 a9 a10 = a2 refl
by_kind type.U64 a0 a1 a2 a3 a4 a5 a6 a7 a8 a9 a10 = a3 refl
by_kind type.F16 a0 a1 a2 a3 a4 a5 a6 a7 a8 a9 a10 = a4 refl
by_kind type.F32 a0 a1 a2 a3 a4 a5 a6 a7 a8 a9 a10 = a5 refl
by_kind type.F64 a0 a1 a2 a3 a4 a5 a6 a7 a8 a9 a10 = a6 refl
by_kind type.I8 a0 a1 a2 a3 a4 a5 a6 a7 a8 a9 a10 = a7 refl
by_kind type.I16 a0 a1 a2 a3 a4 a5 a6 a7 a8 a9 a10 = a8 refl
by_kind type.I32 a0 a1 a2 a3 a4 a5 a6 a7 a8 a9 a10 = a9 refl
by_kind type.I64 a0 a1 a2 a3 a4 a5 a6 a7 a8 a9 a10 = a10 refl
