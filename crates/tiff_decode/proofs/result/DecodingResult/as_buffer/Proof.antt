-- `as_buffer` passes `self` to the function of its number type, and makes the variant from that
-- function's slice.
use mathlib.Core.Path.{◌≡◌, refl, sym, ap, ◌∙◌}
use mathlib.Core.List.{List, [], ◌∷◌}
use Prim.Native.Nat.{ℕ, ◌≤◌}
use lib.Dec.{lit<}
use lib.ListN.{length}
use Rattle.std.proofs.raw_atomic.Walks.{proved}
use Rattle.std.proofs.VecSteps.Shapes.{after, head, arm_body}
use Rattle.std.specs.Borrow.{MutBor, Array, u8, u16, u32, u64, i8, i16, i32, i64}
use base.Fraction.{full_share}
use base.Logic.{emp, id⊢}
use base.Fml.{ftrue, flft, fres}
use mir.Syntax.{w64, named}
use mir.Val.{Val, vcons, vnil}
use contract.Lifetimes.{Lfts}
use contract.Monad.{fact, fact_i}
use contract.Running.{tables}
use types.Kit.{‵, raw, ◌⊛◌, some, later, prop, at_ret, Sq, ◌$◌, ◌∵◌, !, qed, done, move, keep, drop, use0, use1, use2, use3, split, join, fsplit, pick, await, rewrite, suffices, frame, group}
use types.Match.{vrt, live}
use types.Part.{agg, whole}
use types.Run.{enter, of_opd, lit, addr, stop, fld, no_more, and_then, first, switches_on, exec, returns}
use types.ByLocal.{alloc_all, pass_all, free_all, look_at, get, get_tag, through, sets, sets_last, lands_as, env}
use types.Tokens.{lft_new, lft_end}
use denote.Builtin.{usize}
use denote.Exit.{yes, no}
use denote.Follow.{follows}
use denote.Laws.{shows, Is}
use denote.Lend.{lends_again, comes_back, LentAgain}
use denote.Plain.{uint_Makes, uint_vals, uint_Tells}
use denote.RattleType.{RattleType}
use denote.Ref.{MutRef, mut_vals, mut_Tells}
use denote.Signature.{plain, named_lft, mut_ref_to}
use denote.Slice.{MutSlice, slice_val}
use denote.Steps.{nothing, owned, heard, peeks, facts, only}
use denote.Triple.Call.{calls_at}
use denote.Triple.Clauses.{Lasts, lasts}
use denote.Triple.Spec.{triple_of}
use denote.Triple.Walked.{Stays, walk_of, says, stay_dropped, Goes-dropped, Goes-spent_ref, ends_at}
use denote.Triple.Table.{framed}
use Rattle.tiff_decode.specs.Lending.{lends_rest, F16s, F32s, F64s, with_u8, with_u16, with_u32, with_u64, with_f16, with_f32, with_f64, with_i8, with_i16, with_i32, with_i64}
use Rattle.tiff_decode.specs.Result.{decoded_as, buffered_as}
use Rattle.tiff_decode.specs.declared.result.DecodingResult.{DecodingResult}
use Rattle.tiff_decode.specs.declared.buffer.DecodingBuffer.{DecodingBuffer}
use Rattle.tiff_decode.specs.declared.buffer.DecodingBuffer.TheVariants as buffer
use Rattle.tiff_decode.specs.contracts.result.DecodingResult.{the_row as R}
use Rattle.tiff_decode.specs.contracts.buffer.DecodingBuffer as Buffers
use Rattle.tiff_decode.specs.contracts.result.DecodingResult.as_buffer as f
use Rattle.tiff_decode.specs.contracts.result.DecodingResult.sample_type_kept as g
use Rattle.tiff_decode.proofs.Wraps.{wraps, by_kind, then_runs}
use Rattle.tiff_decode.proofs.result.DecodingResult.sample_type_kept.Met.{met}
use Rattle.tiff_decode.proofs.result.DecodingResult.as_buffer.Statement.{statement}
use Rattle.tiff_decode.proofs.result.DecodingResult.as_buffer.Code as code
use Rattle.tiff_page.specs.declared.layout.DecodingSampleType.{DecodingSampleType}
use Rattle.tiff_page.specs.declared.layout.DecodingSampleType.TheVariants as type
use Rattle.tiff_page.specs.contracts.layout.DecodingSampleType.{the_row as K}
use Rattle.tiff_page.proofs.layout.DecodingSampleType.TheLaws.{lowers}
use Rattle.std.specs.Prelude.{ℤ, drop as rest}
use Rattle.tiff_decode.specs.contracts.result.DecodingResult.u8_rest as u8
use Rattle.tiff_decode.proofs.result.DecodingResult.u8_rest.Met.{met as u8-met}
use Rattle.tiff_decode.specs.contracts.result.DecodingResult.u16_rest as u16
use Rattle.tiff_decode.proofs.result.DecodingResult.u16_rest.Met.{met as u16-met}
use Rattle.tiff_decode.specs.contracts.result.DecodingResult.u32_rest as u32
use Rattle.tiff_decode.proofs.result.DecodingResult.u32_rest.Met.{met as u32-met}
use Rattle.tiff_decode.specs.contracts.result.DecodingResult.u64_rest as u64
use Rattle.tiff_decode.proofs.result.DecodingResult.u64_rest.Met.{met as u64-met}
use Rattle.tiff_decode.specs.contracts.result.DecodingResult.f16_rest as f16
use Rattle.tiff_decode.proofs.result.DecodingResult.f16_rest.Met.{met as f16-met}
use Rattle.tiff_decode.specs.contracts.result.DecodingResult.f32_rest as f32
use Rattle.tiff_decode.proofs.result.DecodingResult.f32_rest.Met.{met as f32-met}
use Rattle.tiff_decode.specs.contracts.result.DecodingResult.f64_rest as f64
use Rattle.tiff_decode.proofs.result.DecodingResult.f64_rest.Met.{met as f64-met}
use Rattle.tiff_decode.specs.contracts.result.DecodingResult.i8_rest as i8
use Rattle.tiff_decode.proofs.result.DecodingResult.i8_rest.Met.{met as i8-met}
use Rattle.tiff_decode.specs.contracts.result.DecodingResult.i16_rest as i16
use Rattle.tiff_decode.proofs.result.DecodingResult.i16_rest.Met.{met as i16-met}
use Rattle.tiff_decode.specs.contracts.result.DecodingResult.i32_rest as i32
use Rattle.tiff_decode.proofs.result.DecodingResult.i32_rest.Met.{met as i32-met}
use Rattle.tiff_decode.specs.contracts.result.DecodingResult.i64_rest as i64
use Rattle.tiff_decode.proofs.result.DecodingResult.i64_rest.Met.{met as i64-met}
use Rattle.tiff_base.specs.declared.tags.Bits16.{Bits16}
use Rattle.tiff_base.specs.declared.tags.Bits32.{Bits32}
use Rattle.tiff_base.specs.declared.tags.Bits64.{Bits64}

abbrev stayed : Stays f.ended.signature.params f.ended.kept
stayed = (stay_dropped (mut_ref_to (0 ∷ []) tt (plain (λ _. R))) no, (stay_dropped _ yes, tt))

abbrev L : Lfts 1 → RattleType
L κs = Buffers.the_row (named_lft 1 0 tt κs)

pub as_buffer_spec : {M : Type 1} → statement M
as_buffer_spec 𝓤 𝓛 𝓜 𝓡 wired =
    let c =
    f.clauses 𝓛 𝓜.mem 𝓡.returns in let W =
    walk_of 𝓛 f.ended stayed c in let 𝓣 = tables 𝓤 𝓛.H 𝓜 𝓡 𝓡.env in
    proved 𝓛 f.ended stayed c 𝓜 𝓡 (Goes-spent_ref 𝓛 1 (0 ∷ []) tt (plain (λ _. R)), (Goes-dropped 𝓛 1 (plain (λ _. usize)) yes (λ κs x w. refl), tt))
    f.Key.name code.function (code.unfolded 𝓤 𝓛.H 𝓜 𝓡 wired)
    (λ κs. (mut_vals, (uint_vals w64, tt))) (λ κs. (mut_Tells (named 0) κs.0 R, (uint_Tells w64, tt))) (λ κs qs bounds a _ are.
    let κ =
    κs.0 in let q =
    qs.0 in let r =
    a.0 in let b =
    r.ref_ptr.0 in let o =
    r.ref_ptr.1 in let vs = mut_vals r in let h = r.now in let n = a.1.0 in
    let Ref = λ (κ' : List ℕ) (x : MutBor DecodingResult). (MutRef (named 0) κ' R).own_val x vs in
    let y : W.Ghost = ((κs, qs, bounds, a, (vs, (uint_vals w64 n, tt))), tt) in
    let fm = framed 𝓤 𝓛.H 𝓜 𝓣 in let body = (code.function).body in
    let out : (u : Val) (d : DecodingBuffer)
    → (buffered_as d).sample_type ≡ (decoded_as h).sample_type
    → (buffered_as d).numbers ≡ rest n (decoded_as h).numbers
    → Sq 𝓛 (‵ ((L κs).own_val d (u ∷ [])) ∷ (‵ (flft κ q) ⊛ ‵ ftrue) ∷ ‵ (lends_rest r n d)
    ∷ []) (prop (W.post y u)) = λ u d same numbers.
    suffices ! _ (ends_at 𝓛 f.ended stayed c y u d (tt, (tt, tt)) (tt, (tt, tt))) $
    nothing ! $ nothing ! $ join ! $ nothing ! $ join ! $ move ! (2 ∷ 0 ∷ 1
    ∷ []) $ group ! 3 $ frame ! $ frame ! $ says ! numbers $ use0 𝓛
    (raw (fact 𝓤 ((buffered_as d).sample_type
    ≡ (decoded_as h).sample_type))) (fact_i 𝓤 _ (emp 𝓤) same) $ done ! in
    qed 𝓛 (((‵ (flft κ q) ⊛ ‵ ftrue) ⊛ ‵ (Ref κ r) ⊛ ‵ (usize.own_val n (uint_vals w64 n)) ⊛ ‵ ftrue) ∷ raw (fact 𝓤 (n ≤ length (decoded_as h).numbers)) ∷ []) ∵
    split ! $ split ! $ move ! (2 ∷ []) $ split ! $ keep ! (4 ∷ 0 ∷ 2 ∷ []) $ heard ! _ (λ within.
    enter ! _ _ _ _ _ $ alloc_all ! (λ l. pass_all ! refl ((tt, tt), ((tt, record { fits = are.1.0.1 }), tt)) $
    let En =
    env code.Mir.locals l in let Q =
    at_ret En (W.post y) in let Then = then_runs 𝓛 𝓣.C 𝓣.Λ En (after 3 body) Q in
    -- [self; the token of κ]
    sets ! (addr ! (through ! refl (stop !))) refl (tt, tt) $
    lft_new ! tt (λ α. move ! (1 ∷ 2 ∷ []) $
    use2 𝓛 (later (some (λ (δ : ℕ). ‵ (Ref (α ∷ []) (record r { ghost_name = δ })) ⊛ ‵ (LentAgain R κ (α ∷ []) q r.ghost_name b o δ h))))
    (lends_again 𝓛 R (named 0) κ (α ∷ []) q r.ghost_name b o (named 0) h) $ await ! tt $ pick !
    (λ δ. split ! $
    -- [the loan; what self keeps; the token of α]
    let G = triple_of 𝓛 g.signature (g.spec 𝓛 𝓜.mem 𝓡.returns) in
    let z : G.Ghost =
    (((α ∷ [], tt), (full_share, tt), tt, (record r { ghost_name = δ }, tt), (vs, tt)), tt) in
    nothing ! $ move ! (1 ∷ 0 ∷ []) $ join ! $ nothing ! $ move ! (3 ∷ 0 ∷ []) $ join ! $ join ! $
    nothing ! $ move ! (1 ∷ 0 ∷ []) $ use2 𝓛 (raw (G.pre z)) (id⊢ 𝓤 _) $
    calls_at ! fm G (met 𝓤 𝓛 𝓜 𝓡 (code.calls-tiff_decode::result::DecodingResult::sample_type_kept 𝓡.env wired)) z (and_then ! (get ! refl) (no_more !)) (λ v.
    use1 𝓛 (later (some (λ (k : DecodingSampleType). ((‵ (flft (α ∷ []) full_share) ⊛ ‵ ftrue) ⊛ ‵ (K.own_val k (v ∷ []))) ⊛
    some (λ (ws : DecodingResult × Unit {0}). ‵ (lasts g.ended z.0.0 z.0.3 ws) ⊛ (raw (fact 𝓤 (k ≡ (decoded_as h).sample_type)) ⊛ raw (fact 𝓤 (ws.0 ≡ h))))))) (id⊢ 𝓤 _) $
    await ! tt $ pick ! (λ k. split ! $ split ! $ split ! $ lft_end ! tt $
    move ! (3 ∷ []) $ pick ! (λ ws. split ! $ move ! (1
    ∷ []) $ split ! $ heard ! _ (λ is_kind. heard ! _ (λ kept. fsplit ! $ fsplit ! $
    rewrite ! 0 (λ (m : DecodingResult). ‵ (fres δ (R.coded.code m))) kept refl $
    -- [the loan's last value; its borrow; nothing; α is over; nothing; the kind; what self keeps]
    move ! (3 ∷ 6 ∷ 0 ∷ []) $ use3 𝓛 (later (‵ (Ref κ r) ⊛ ‵ (flft κ q)))
    (comes_back 𝓛 R (named 0) κ (α ∷ []) q r.ghost_name b o δ h h) $ await ! tt $ split ! $
    -- [self; the token of κ; a borrow; nothing; nothing; the kind]
    move ! (5 ∷ []) $ facts ! K (Is K) (shows 𝓛 K) k (v
    ∷ []) (λ is. let told = ap only (lowers.val_is k (v ∷ []) is) in
    owned ! usize _ (uint_Makes 𝓛 w64) n _ (refl, are.1.0.1) $
    nothing ! $ move ! (1 ∷ 0 ∷ []) $ join ! $ move ! (1 ∷ 0 ∷ []) $ join ! $ nothing ! $ move ! (2
    ∷ 0 ∷ []) $ join ! $ join ! $
    use0 𝓛 (raw (fact 𝓤 (n ≤ length (decoded_as h).numbers))) (fact_i 𝓤 _ (emp 𝓤) within) $
    -- [that n is within; the tokens and the arguments; ..]
    by_kind k
    (λ e. lands_as ! (told ∙ ap lowers.lowered e) refl (tt, (record { fits = lit< tt }, tt)) $
    first ! $ switches_on ! (get_tag ! (vrt ! refl (fld ! refl (stop !))) (whole !)) $ exec ! 𝓣.C 𝓣.Λ En (arm_body 0 (head (after 2 body))) Then $
    sets ! (addr ! (through ! refl (stop !))) refl (tt, tt) $
    use0 𝓛 (raw (fact 𝓤 (type.U8 ≡ (decoded_as h).sample_type))) (fact_i 𝓤 _ (emp 𝓤) (sym e
    ∙ is_kind)) $ join ! $ move ! (1 ∷ 0 ∷ []) $
    let S =
    MutSlice (named 0) κ u8 in let C =
    triple_of 𝓛 u8.signature (u8.spec 𝓛 𝓜.mem 𝓡.returns) in let x : C.Ghost = (y.0, tt) in
    use2 𝓛 (raw (C.pre x)) (id⊢ 𝓤 _) $
    calls_at ! fm C (u8-met 𝓤 𝓛 𝓜 𝓡 (code.calls-tiff_decode::result::DecodingResult::u8_rest 𝓡.env wired)) x (and_then ! (get ! refl) (and_then ! (get ! refl) (no_more !))) (λ u.
    use1 𝓛 (later (some (λ (s : MutBor (List ℕ)). ((‵ (flft κ q) ⊛ ‵ ftrue) ⊛ ‵ (S.own_val s (u ∷ []))) ⊛
    some (λ (ws : Lasts u8.ended κs a). ‵ (lasts u8.ended κs a ws) ⊛ (‵ (follows R (Array u8 0) r.ghost_name s.ghost_name (with_u8 h n)) ⊛ (raw (fact 𝓤 ((buffered_as (buffer.U8 s)).sample_type ≡ (decoded_as h).sample_type)) ⊛ raw (fact 𝓤 ((buffered_as (buffer.U8 s)).numbers ≡ rest n (decoded_as h).numbers)))))))) (id⊢ 𝓤 _) $
    await ! tt $ pick ! (λ s. split ! $ move ! (1
    ∷ []) $ pick ! (λ ws. split ! $ drop ! $ split ! $ move ! (1
    ∷ []) $ split ! $ heard ! _ (λ same. heard ! _ (λ numbers.
    -- [how self follows; the tokens and the slice; ..]
    move ! (1 ∷ []) $ split ! $ move ! (1 ∷ []) $ peeks ! S (Is S) (shows 𝓛 S) s (u ∷ []) (λ sl.
    let w = slice_val s.ref_ptr (length s.now) in
    rewrite ! 0 (λ (us : List Val). ‵ (S.own_val s us)) sl.0.0 refl $
    use1 𝓛 (‵ ((L κs).own_val (buffer.U8 s) (live 0 (vcons w vnil)
    ∷ []))) (wraps 𝓛 (L κs) S 0 (buffer.U8 s) s (λ us. refl) w) $
    lands_as ! (ap only sl.0.0) refl (tt, (tt, (record { fits = sl.0.1.0 }, tt))) $
    sets_last ! (agg ! (and_then ! (lit ! tt) (and_then ! (get ! refl) (no_more !)))) refl
    (tt, (record { fits = lit< tt }, ((tt, (record { fits = sl.0.1.0 }, tt)), tt))) $
    exec ! 𝓣.C 𝓣.Λ En (after 3 body) Q $
    sets ! (of_opd ! (get ! refl)) refl (tt, (record { fits = lit< tt }, ((tt, (record { fits = sl.0.1.0 }, tt)), tt))) $
    returns ! (look_at ! 0 refl) $ free_all ! refl $ keep ! (0 ∷ 1 ∷ 2 ∷ []) $ out (live 0 (vcons w vnil)) (buffer.U8 s) same numbers)))))))
    (λ e. lands_as ! (told ∙ ap lowers.lowered e) refl (tt, (record { fits = lit< tt }, tt)) $
    first ! $ switches_on ! (get_tag ! (vrt ! refl (fld ! refl (stop !))) (whole !)) $ exec ! 𝓣.C 𝓣.Λ En (arm_body 1 (head (after 2 body))) Then $
    sets ! (addr ! (through ! refl (stop !))) refl (tt, tt) $
    use0 𝓛 (raw (fact 𝓤 (type.U16 ≡ (decoded_as h).sample_type))) (fact_i 𝓤 _ (emp 𝓤) (sym e
    ∙ is_kind)) $ join ! $ move ! (1 ∷ 0 ∷ []) $
    let S =
    MutSlice (named 0) κ u16 in let C =
    triple_of 𝓛 u16.signature (u16.spec 𝓛 𝓜.mem 𝓡.returns) in let x : C.Ghost = (y.0, tt) in
    use2 𝓛 (raw (C.pre x)) (id⊢ 𝓤 _) $
    calls_at ! fm C (u16-met 𝓤 𝓛 𝓜 𝓡 (code.calls-tiff_decode::result::DecodingResult::u16_rest 𝓡.env wired)) x (and_then ! (get ! refl) (and_then ! (get ! refl) (no_more !))) (λ u.
    use1 𝓛 (later (some (λ (s : MutBor (List ℕ)). ((‵ (flft κ q) ⊛ ‵ ftrue) ⊛ ‵ (S.own_val s (u ∷ []))) ⊛
    some (λ (ws : Lasts u16.ended κs a). ‵ (lasts u16.ended κs a ws) ⊛ (‵ (follows R (Array u16 0) r.ghost_name s.ghost_name (with_u16 h n)) ⊛ (raw (fact 𝓤 ((buffered_as (buffer.U16 s)).sample_type ≡ (decoded_as h).sample_type)) ⊛ raw (fact 𝓤 ((buffered_as (buffer.U16 s)).numbers ≡ rest n (decoded_as h).numbers)))))))) (id⊢ 𝓤 _) $
    await ! tt $ pick ! (λ s. split ! $ move ! (1
    ∷ []) $ pick ! (λ ws. split ! $ drop ! $ split ! $ move ! (1
    ∷ []) $ split ! $ heard ! _ (λ same. heard ! _ (λ numbers.
    -- [how self follows; the tokens and the slice; ..]
    move ! (1 ∷ []) $ split ! $ move ! (1 ∷ []) $ peeks ! S (Is S) (shows 𝓛 S) s (u ∷ []) (λ sl.
    let w = slice_val s.ref_ptr (length s.now) in
    rewrite ! 0 (λ (us : List Val). ‵ (S.own_val s us)) sl.0.0 refl $
    use1 𝓛 (‵ ((L κs).own_val (buffer.U16 s) (live 1 (vcons w vnil)
    ∷ []))) (wraps 𝓛 (L κs) S 1 (buffer.U16 s) s (λ us. refl) w) $
    lands_as ! (ap only sl.0.0) refl (tt, (tt, (record { fits = sl.0.1.0 }, tt))) $
    sets_last ! (agg ! (and_then ! (lit ! tt) (and_then ! (get ! refl) (no_more !)))) refl
    (tt, (record { fits = lit< tt }, ((tt, (record { fits = sl.0.1.0 }, tt)), tt))) $
    exec ! 𝓣.C 𝓣.Λ En (after 3 body) Q $
    sets ! (of_opd ! (get ! refl)) refl (tt, (record { fits = lit< tt }, ((tt, (record { fits = sl.0.1.0 }, tt)), tt))) $
    returns ! (look_at ! 0 refl) $ free_all ! refl $ keep ! (0 ∷ 1 ∷ 2 ∷ []) $ out (live 1 (vcons w vnil)) (buffer.U16 s) same numbers)))))))
    (λ e. lands_as ! (told ∙ ap lowers.lowered e) refl (tt, (record { fits = lit< tt }, tt)) $
    first ! $ switches_on ! (get_tag ! (vrt ! refl (fld ! refl (stop !))) (whole !)) $ exec ! 𝓣.C 𝓣.Λ En (arm_body 2 (head (after 2 body))) Then $
    sets ! (addr ! (through ! refl (stop !))) refl (tt, tt) $
    use0 𝓛 (raw (fact 𝓤 (type.U32 ≡ (decoded_as h).sample_type))) (fact_i 𝓤 _ (emp 𝓤) (sym e
    ∙ is_kind)) $ join ! $ move ! (1 ∷ 0 ∷ []) $
    let S =
    MutSlice (named 0) κ u32 in let C =
    triple_of 𝓛 u32.signature (u32.spec 𝓛 𝓜.mem 𝓡.returns) in let x : C.Ghost = (y.0, tt) in
    use2 𝓛 (raw (C.pre x)) (id⊢ 𝓤 _) $
    calls_at ! fm C (u32-met 𝓤 𝓛 𝓜 𝓡 (code.calls-tiff_decode::result::DecodingResult::u32_rest 𝓡.env wired)) x (and_then ! (get ! refl) (and_then ! (get ! refl) (no_more !))) (λ u.
    use1 𝓛 (later (some (λ (s : MutBor (List ℕ)). ((‵ (flft κ q) ⊛ ‵ ftrue) ⊛ ‵ (S.own_val s (u ∷ []))) ⊛
    some (λ (ws : Lasts u32.ended κs a). ‵ (lasts u32.ended κs a ws) ⊛ (‵ (follows R (Array u32 0) r.ghost_name s.ghost_name (with_u32 h n)) ⊛ (raw (fact 𝓤 ((buffered_as (buffer.U32 s)).sample_type ≡ (decoded_as h).sample_type)) ⊛ raw (fact 𝓤 ((buffered_as (buffer.U32 s)).numbers ≡ rest n (decoded_as h).numbers)))))))) (id⊢ 𝓤 _) $
    await ! tt $ pick ! (λ s. split ! $ move ! (1
    ∷ []) $ pick ! (λ ws. split ! $ drop ! $ split ! $ move ! (1
    ∷ []) $ split ! $ heard ! _ (λ same. heard ! _ (λ numbers.
    -- [how self follows; the tokens and the slice; ..]
    move ! (1 ∷ []) $ split ! $ move ! (1 ∷ []) $ peeks ! S (Is S) (shows 𝓛 S) s (u ∷ []) (λ sl.
    let w = slice_val s.ref_ptr (length s.now) in
    rewrite ! 0 (λ (us : List Val). ‵ (S.own_val s us)) sl.0.0 refl $
    use1 𝓛 (‵ ((L κs).own_val (buffer.U32 s) (live 2 (vcons w vnil)
    ∷ []))) (wraps 𝓛 (L κs) S 2 (buffer.U32 s) s (λ us. refl) w) $
    lands_as ! (ap only sl.0.0) refl (tt, (tt, (record { fits = sl.0.1.0 }, tt))) $
    sets_last ! (agg ! (and_then ! (lit ! tt) (and_then ! (get ! refl) (no_more !)))) refl
    (tt, (record { fits = lit< tt }, ((tt, (record { fits = sl.0.1.0 }, tt)), tt))) $
    exec ! 𝓣.C 𝓣.Λ En (after 3 body) Q $
    sets ! (of_opd ! (get ! refl)) refl (tt, (record { fits = lit< tt }, ((tt, (record { fits = sl.0.1.0 }, tt)), tt))) $
    returns ! (look_at ! 0 refl) $ free_all ! refl $ keep ! (0 ∷ 1 ∷ 2 ∷ []) $ out (live 2 (vcons w vnil)) (buffer.U32 s) same numbers)))))))
    (λ e. lands_as ! (told ∙ ap lowers.lowered e) refl (tt, (record { fits = lit< tt }, tt)) $
    first ! $ switches_on ! (get_tag ! (vrt ! refl (fld ! refl (stop !))) (whole !)) $ exec ! 𝓣.C 𝓣.Λ En (arm_body 3 (head (after 2 body))) Then $
    sets ! (addr ! (through ! refl (stop !))) refl (tt, tt) $
    use0 𝓛 (raw (fact 𝓤 (type.U64 ≡ (decoded_as h).sample_type))) (fact_i 𝓤 _ (emp 𝓤) (sym e
    ∙ is_kind)) $ join ! $ move ! (1 ∷ 0 ∷ []) $
    let S =
    MutSlice (named 0) κ u64 in let C =
    triple_of 𝓛 u64.signature (u64.spec 𝓛 𝓜.mem 𝓡.returns) in let x : C.Ghost = (y.0, tt) in
    use2 𝓛 (raw (C.pre x)) (id⊢ 𝓤 _) $
    calls_at ! fm C (u64-met 𝓤 𝓛 𝓜 𝓡 (code.calls-tiff_decode::result::DecodingResult::u64_rest 𝓡.env wired)) x (and_then ! (get ! refl) (and_then ! (get ! refl) (no_more !))) (λ u.
    use1 𝓛 (later (some (λ (s : MutBor (List ℕ)). ((‵ (flft κ q) ⊛ ‵ ftrue) ⊛ ‵ (S.own_val s (u ∷ []))) ⊛
    some (λ (ws : Lasts u64.ended κs a). ‵ (lasts u64.ended κs a ws) ⊛ (‵ (follows R (Array u64 0) r.ghost_name s.ghost_name (with_u64 h n)) ⊛ (raw (fact 𝓤 ((buffered_as (buffer.U64 s)).sample_type ≡ (decoded_as h).sample_type)) ⊛ raw (fact 𝓤 ((buffered_as (buffer.U64 s)).numbers ≡ rest n (decoded_as h).numbers)))))))) (id⊢ 𝓤 _) $
    await ! tt $ pick ! (λ s. split ! $ move ! (1
    ∷ []) $ pick ! (λ ws. split ! $ drop ! $ split ! $ move ! (1
    ∷ []) $ split ! $ heard ! _ (λ same. heard ! _ (λ numbers.
    -- [how self follows; the tokens and the slice; ..]
    move ! (1 ∷ []) $ split ! $ move ! (1 ∷ []) $ peeks ! S (Is S) (shows 𝓛 S) s (u ∷ []) (λ sl.
    let w = slice_val s.ref_ptr (length s.now) in
    rewrite ! 0 (λ (us : List Val). ‵ (S.own_val s us)) sl.0.0 refl $
    use1 𝓛 (‵ ((L κs).own_val (buffer.U64 s) (live 3 (vcons w vnil)
    ∷ []))) (wraps 𝓛 (L κs) S 3 (buffer.U64 s) s (λ us. refl) w) $
    lands_as ! (ap only sl.0.0) refl (tt, (tt, (record { fits = sl.0.1.0 }, tt))) $
    sets_last ! (agg ! (and_then ! (lit ! tt) (and_then ! (get ! refl) (no_more !)))) refl
    (tt, (record { fits = lit< tt }, ((tt, (record { fits = sl.0.1.0 }, tt)), tt))) $
    exec ! 𝓣.C 𝓣.Λ En (after 3 body) Q $
    sets ! (of_opd ! (get ! refl)) refl (tt, (record { fits = lit< tt }, ((tt, (record { fits = sl.0.1.0 }, tt)), tt))) $
    returns ! (look_at ! 0 refl) $ free_all ! refl $ keep ! (0 ∷ 1 ∷ 2 ∷ []) $ out (live 3 (vcons w vnil)) (buffer.U64 s) same numbers)))))))
    (λ e. lands_as ! (told ∙ ap lowers.lowered e) refl (tt, (record { fits = lit< tt }, tt)) $
    first ! $ switches_on ! (get_tag ! (vrt ! refl (fld ! refl (stop !))) (whole !)) $ exec ! 𝓣.C 𝓣.Λ En (arm_body 4 (head (after 2 body))) Then $
    sets ! (addr ! (through ! refl (stop !))) refl (tt, tt) $
    use0 𝓛 (raw (fact 𝓤 (type.F16 ≡ (decoded_as h).sample_type))) (fact_i 𝓤 _ (emp 𝓤) (sym e
    ∙ is_kind)) $ join ! $ move ! (1 ∷ 0 ∷ []) $
    let S =
    MutSlice (named 0) κ F16s in let C =
    triple_of 𝓛 f16.signature (f16.spec 𝓛 𝓜.mem 𝓡.returns) in let x : C.Ghost = (y.0, tt) in
    use2 𝓛 (raw (C.pre x)) (id⊢ 𝓤 _) $
    calls_at ! fm C (f16-met 𝓤 𝓛 𝓜 𝓡 (code.calls-tiff_decode::result::DecodingResult::f16_rest 𝓡.env wired)) x (and_then ! (get ! refl) (and_then ! (get ! refl) (no_more !))) (λ u.
    use1 𝓛 (later (some (λ (s : MutBor (List Bits16)). ((‵ (flft κ q) ⊛ ‵ ftrue) ⊛ ‵ (S.own_val s (u ∷ []))) ⊛
    some (λ (ws : Lasts f16.ended κs a). ‵ (lasts f16.ended κs a ws) ⊛ (‵ (follows R (Array F16s 0) r.ghost_name s.ghost_name (with_f16 h n)) ⊛ (raw (fact 𝓤 ((buffered_as (buffer.F16 s)).sample_type ≡ (decoded_as h).sample_type)) ⊛ raw (fact 𝓤 ((buffered_as (buffer.F16 s)).numbers ≡ rest n (decoded_as h).numbers)))))))) (id⊢ 𝓤 _) $
    await ! tt $ pick ! (λ s. split ! $ move ! (1
    ∷ []) $ pick ! (λ ws. split ! $ drop ! $ split ! $ move ! (1
    ∷ []) $ split ! $ heard ! _ (λ same. heard ! _ (λ numbers.
    -- [how self follows; the tokens and the slice; ..]
    move ! (1 ∷ []) $ split ! $ move ! (1 ∷ []) $ peeks ! S (Is S) (shows 𝓛 S) s (u ∷ []) (λ sl.
    let w = slice_val s.ref_ptr (length s.now) in
    rewrite ! 0 (λ (us : List Val). ‵ (S.own_val s us)) sl.0.0 refl $
    use1 𝓛 (‵ ((L κs).own_val (buffer.F16 s) (live 4 (vcons w vnil)
    ∷ []))) (wraps 𝓛 (L κs) S 4 (buffer.F16 s) s (λ us. refl) w) $
    lands_as ! (ap only sl.0.0) refl (tt, (tt, (record { fits = sl.0.1.0 }, tt))) $
    sets_last ! (agg ! (and_then ! (lit ! tt) (and_then ! (get ! refl) (no_more !)))) refl
    (tt, (record { fits = lit< tt }, ((tt, (record { fits = sl.0.1.0 }, tt)), tt))) $
    exec ! 𝓣.C 𝓣.Λ En (after 3 body) Q $
    sets ! (of_opd ! (get ! refl)) refl (tt, (record { fits = lit< tt }, ((tt, (record { fits = sl.0.1.0 }, tt)), tt))) $
    returns ! (look_at ! 0 refl) $ free_all ! refl $ keep ! (0 ∷ 1 ∷ 2 ∷ []) $ out (live 4 (vcons w vnil)) (buffer.F16 s) same numbers)))))))
    (λ e. lands_as ! (told ∙ ap lowers.lowered e) refl (tt, (record { fits = lit< tt }, tt)) $
    first ! $ switches_on ! (get_tag ! (vrt ! refl (fld ! refl (stop !))) (whole !)) $ exec ! 𝓣.C 𝓣.Λ En (arm_body 5 (head (after 2 body))) Then $
    sets ! (addr ! (through ! refl (stop !))) refl (tt, tt) $
    use0 𝓛 (raw (fact 𝓤 (type.F32 ≡ (decoded_as h).sample_type))) (fact_i 𝓤 _ (emp 𝓤) (sym e
    ∙ is_kind)) $ join ! $ move ! (1 ∷ 0 ∷ []) $
    let S =
    MutSlice (named 0) κ F32s in let C =
    triple_of 𝓛 f32.signature (f32.spec 𝓛 𝓜.mem 𝓡.returns) in let x : C.Ghost = (y.0, tt) in
    use2 𝓛 (raw (C.pre x)) (id⊢ 𝓤 _) $
    calls_at ! fm C (f32-met 𝓤 𝓛 𝓜 𝓡 (code.calls-tiff_decode::result::DecodingResult::f32_rest 𝓡.env wired)) x (and_then ! (get ! refl) (and_then ! (get ! refl) (no_more !))) (λ u.
    use1 𝓛 (later (some (λ (s : MutBor (List Bits32)). ((‵ (flft κ q) ⊛ ‵ ftrue) ⊛ ‵ (S.own_val s (u ∷ []))) ⊛
    some (λ (ws : Lasts f32.ended κs a). ‵ (lasts f32.ended κs a ws) ⊛ (‵ (follows R (Array F32s 0) r.ghost_name s.ghost_name (with_f32 h n)) ⊛ (raw (fact 𝓤 ((buffered_as (buffer.F32 s)).sample_type ≡ (decoded_as h).sample_type)) ⊛ raw (fact 𝓤 ((buffered_as (buffer.F32 s)).numbers ≡ rest n (decoded_as h).numbers)))))))) (id⊢ 𝓤 _) $
    await ! tt $ pick ! (λ s. split ! $ move ! (1
    ∷ []) $ pick ! (λ ws. split ! $ drop ! $ split ! $ move ! (1
    ∷ []) $ split ! $ heard ! _ (λ same. heard ! _ (λ numbers.
    -- [how self follows; the tokens and the slice; ..]
    move ! (1 ∷ []) $ split ! $ move ! (1 ∷ []) $ peeks ! S (Is S) (shows 𝓛 S) s (u ∷ []) (λ sl.
    let w = slice_val s.ref_ptr (length s.now) in
    rewrite ! 0 (λ (us : List Val). ‵ (S.own_val s us)) sl.0.0 refl $
    use1 𝓛 (‵ ((L κs).own_val (buffer.F32 s) (live 5 (vcons w vnil)
    ∷ []))) (wraps 𝓛 (L κs) S 5 (buffer.F32 s) s (λ us. refl) w) $
    lands_as ! (ap only sl.0.0) refl (tt, (tt, (record { fits = sl.0.1.0 }, tt))) $
    sets_last ! (agg ! (and_then ! (lit ! tt) (and_then ! (get ! refl) (no_more !)))) refl
    (tt, (record { fits = lit< tt }, ((tt, (record { fits = sl.0.1.0 }, tt)), tt))) $
    exec ! 𝓣.C 𝓣.Λ En (after 3 body) Q $
    sets ! (of_opd ! (get ! refl)) refl (tt, (record { fits = lit< tt }, ((tt, (record { fits = sl.0.1.0 }, tt)), tt))) $
    returns ! (look_at ! 0 refl) $ free_all ! refl $ keep ! (0 ∷ 1 ∷ 2 ∷ []) $ out (live 5 (vcons w vnil)) (buffer.F32 s) same numbers)))))))
    (λ e. lands_as ! (told ∙ ap lowers.lowered e) refl (tt, (record { fits = lit< tt }, tt)) $
    first ! $ switches_on ! (get_tag ! (vrt ! refl (fld ! refl (stop !))) (whole !)) $ exec ! 𝓣.C 𝓣.Λ En (arm_body 6 (head (after 2 body))) Then $
    sets ! (addr ! (through ! refl (stop !))) refl (tt, tt) $
    use0 𝓛 (raw (fact 𝓤 (type.F64 ≡ (decoded_as h).sample_type))) (fact_i 𝓤 _ (emp 𝓤) (sym e
    ∙ is_kind)) $ join ! $ move ! (1 ∷ 0 ∷ []) $
    let S =
    MutSlice (named 0) κ F64s in let C =
    triple_of 𝓛 f64.signature (f64.spec 𝓛 𝓜.mem 𝓡.returns) in let x : C.Ghost = (y.0, tt) in
    use2 𝓛 (raw (C.pre x)) (id⊢ 𝓤 _) $
    calls_at ! fm C (f64-met 𝓤 𝓛 𝓜 𝓡 (code.calls-tiff_decode::result::DecodingResult::f64_rest 𝓡.env wired)) x (and_then ! (get ! refl) (and_then ! (get ! refl) (no_more !))) (λ u.
    use1 𝓛 (later (some (λ (s : MutBor (List Bits64)). ((‵ (flft κ q) ⊛ ‵ ftrue) ⊛ ‵ (S.own_val s (u ∷ []))) ⊛
    some (λ (ws : Lasts f64.ended κs a). ‵ (lasts f64.ended κs a ws) ⊛ (‵ (follows R (Array F64s 0) r.ghost_name s.ghost_name (with_f64 h n)) ⊛ (raw (fact 𝓤 ((buffered_as (buffer.F64 s)).sample_type ≡ (decoded_as h).sample_type)) ⊛ raw (fact 𝓤 ((buffered_as (buffer.F64 s)).numbers ≡ rest n (decoded_as h).numbers)))))))) (id⊢ 𝓤 _) $
    await ! tt $ pick ! (λ s. split ! $ move ! (1
    ∷ []) $ pick ! (λ ws. split ! $ drop ! $ split ! $ move ! (1
    ∷ []) $ split ! $ heard ! _ (λ same. heard ! _ (λ numbers.
    -- [how self follows; the tokens and the slice; ..]
    move ! (1 ∷ []) $ split ! $ move ! (1 ∷ []) $ peeks ! S (Is S) (shows 𝓛 S) s (u ∷ []) (λ sl.
    let w = slice_val s.ref_ptr (length s.now) in
    rewrite ! 0 (λ (us : List Val). ‵ (S.own_val s us)) sl.0.0 refl $
    use1 𝓛 (‵ ((L κs).own_val (buffer.F64 s) (live 6 (vcons w vnil)
    ∷ []))) (wraps 𝓛 (L κs) S 6 (buffer.F64 s) s (λ us. refl) w) $
    lands_as ! (ap only sl.0.0) refl (tt, (tt, (record { fits = sl.0.1.0 }, tt))) $
    sets_last ! (agg ! (and_then ! (lit ! tt) (and_then ! (get ! refl) (no_more !)))) refl
    (tt, (record { fits = lit< tt }, ((tt, (record { fits = sl.0.1.0 }, tt)), tt))) $
    exec ! 𝓣.C 𝓣.Λ En (after 3 body) Q $
    sets ! (of_opd ! (get ! refl)) refl (tt, (record { fits = lit< tt }, ((tt, (record { fits = sl.0.1.0 }, tt)), tt))) $
    returns ! (look_at ! 0 refl) $ free_all ! refl $ keep ! (0 ∷ 1 ∷ 2 ∷ []) $ out (live 6 (vcons w vnil)) (buffer.F64 s) same numbers)))))))
    (λ e. lands_as ! (told ∙ ap lowers.lowered e) refl (tt, (record { fits = lit< tt }, tt)) $
    first ! $ switches_on ! (get_tag ! (vrt ! refl (fld ! refl (stop !))) (whole !)) $ exec ! 𝓣.C 𝓣.Λ En (arm_body 7 (head (after 2 body))) Then $
    sets ! (addr ! (through ! refl (stop !))) refl (tt, tt) $
    use0 𝓛 (raw (fact 𝓤 (type.I8 ≡ (decoded_as h).sample_type))) (fact_i 𝓤 _ (emp 𝓤) (sym e
    ∙ is_kind)) $ join ! $ move ! (1 ∷ 0 ∷ []) $
    let S =
    MutSlice (named 0) κ i8 in let C =
    triple_of 𝓛 i8.signature (i8.spec 𝓛 𝓜.mem 𝓡.returns) in let x : C.Ghost = (y.0, tt) in
    use2 𝓛 (raw (C.pre x)) (id⊢ 𝓤 _) $
    calls_at ! fm C (i8-met 𝓤 𝓛 𝓜 𝓡 (code.calls-tiff_decode::result::DecodingResult::i8_rest 𝓡.env wired)) x (and_then ! (get ! refl) (and_then ! (get ! refl) (no_more !))) (λ u.
    use1 𝓛 (later (some (λ (s : MutBor (List ℤ)). ((‵ (flft κ q) ⊛ ‵ ftrue) ⊛ ‵ (S.own_val s (u ∷ []))) ⊛
    some (λ (ws : Lasts i8.ended κs a). ‵ (lasts i8.ended κs a ws) ⊛ (‵ (follows R (Array i8 0) r.ghost_name s.ghost_name (with_i8 h n)) ⊛ (raw (fact 𝓤 ((buffered_as (buffer.I8 s)).sample_type ≡ (decoded_as h).sample_type)) ⊛ raw (fact 𝓤 ((buffered_as (buffer.I8 s)).numbers ≡ rest n (decoded_as h).numbers)))))))) (id⊢ 𝓤 _) $
    await ! tt $ pick ! (λ s. split ! $ move ! (1
    ∷ []) $ pick ! (λ ws. split ! $ drop ! $ split ! $ move ! (1
    ∷ []) $ split ! $ heard ! _ (λ same. heard ! _ (λ numbers.
    -- [how self follows; the tokens and the slice; ..]
    move ! (1 ∷ []) $ split ! $ move ! (1 ∷ []) $ peeks ! S (Is S) (shows 𝓛 S) s (u ∷ []) (λ sl.
    let w = slice_val s.ref_ptr (length s.now) in
    rewrite ! 0 (λ (us : List Val). ‵ (S.own_val s us)) sl.0.0 refl $
    use1 𝓛 (‵ ((L κs).own_val (buffer.I8 s) (live 7 (vcons w vnil)
    ∷ []))) (wraps 𝓛 (L κs) S 7 (buffer.I8 s) s (λ us. refl) w) $
    lands_as ! (ap only sl.0.0) refl (tt, (tt, (record { fits = sl.0.1.0 }, tt))) $
    sets_last ! (agg ! (and_then ! (lit ! tt) (and_then ! (get ! refl) (no_more !)))) refl
    (tt, (record { fits = lit< tt }, ((tt, (record { fits = sl.0.1.0 }, tt)), tt))) $
    exec ! 𝓣.C 𝓣.Λ En (after 3 body) Q $
    sets ! (of_opd ! (get ! refl)) refl (tt, (record { fits = lit< tt }, ((tt, (record { fits = sl.0.1.0 }, tt)), tt))) $
    returns ! (look_at ! 0 refl) $ free_all ! refl $ keep ! (0 ∷ 1 ∷ 2 ∷ []) $ out (live 7 (vcons w vnil)) (buffer.I8 s) same numbers)))))))
    (λ e. lands_as ! (told ∙ ap lowers.lowered e) refl (tt, (record { fits = lit< tt }, tt)) $
    first ! $ switches_on ! (get_tag ! (vrt ! refl (fld ! refl (stop !))) (whole !)) $ exec ! 𝓣.C 𝓣.Λ En (arm_body 8 (head (after 2 body))) Then $
    sets ! (addr ! (through ! refl (stop !))) refl (tt, tt) $
    use0 𝓛 (raw (fact 𝓤 (type.I16 ≡ (decoded_as h).sample_type))) (fact_i 𝓤 _ (emp 𝓤) (sym e
    ∙ is_kind)) $ join ! $ move ! (1 ∷ 0 ∷ []) $
    let S =
    MutSlice (named 0) κ i16 in let C =
    triple_of 𝓛 i16.signature (i16.spec 𝓛 𝓜.mem 𝓡.returns) in let x : C.Ghost = (y.0, tt) in
    use2 𝓛 (raw (C.pre x)) (id⊢ 𝓤 _) $
    calls_at ! fm C (i16-met 𝓤 𝓛 𝓜 𝓡 (code.calls-tiff_decode::result::DecodingResult::i16_rest 𝓡.env wired)) x (and_then ! (get ! refl) (and_then ! (get ! refl) (no_more !))) (λ u.
    use1 𝓛 (later (some (λ (s : MutBor (List ℤ)). ((‵ (flft κ q) ⊛ ‵ ftrue) ⊛ ‵ (S.own_val s (u ∷ []))) ⊛
    some (λ (ws : Lasts i16.ended κs a). ‵ (lasts i16.ended κs a ws) ⊛ (‵ (follows R (Array i16 0) r.ghost_name s.ghost_name (with_i16 h n)) ⊛ (raw (fact 𝓤 ((buffered_as (buffer.I16 s)).sample_type ≡ (decoded_as h).sample_type)) ⊛ raw (fact 𝓤 ((buffered_as (buffer.I16 s)).numbers ≡ rest n (decoded_as h).numbers)))))))) (id⊢ 𝓤 _) $
    await ! tt $ pick ! (λ s. split ! $ move ! (1
    ∷ []) $ pick ! (λ ws. split ! $ drop ! $ split ! $ move ! (1
    ∷ []) $ split ! $ heard ! _ (λ same. heard ! _ (λ numbers.
    -- [how self follows; the tokens and the slice; ..]
    move ! (1 ∷ []) $ split ! $ move ! (1 ∷ []) $ peeks ! S (Is S) (shows 𝓛 S) s (u ∷ []) (λ sl.
    let w = slice_val s.ref_ptr (length s.now) in
    rewrite ! 0 (λ (us : List Val). ‵ (S.own_val s us)) sl.0.0 refl $
    use1 𝓛 (‵ ((L κs).own_val (buffer.I16 s) (live 8 (vcons w vnil)
    ∷ []))) (wraps 𝓛 (L κs) S 8 (buffer.I16 s) s (λ us. refl) w) $
    lands_as ! (ap only sl.0.0) refl (tt, (tt, (record { fits = sl.0.1.0 }, tt))) $
    sets_last ! (agg ! (and_then ! (lit ! tt) (and_then ! (get ! refl) (no_more !)))) refl
    (tt, (record { fits = lit< tt }, ((tt, (record { fits = sl.0.1.0 }, tt)), tt))) $
    exec ! 𝓣.C 𝓣.Λ En (after 3 body) Q $
    sets ! (of_opd ! (get ! refl)) refl (tt, (record { fits = lit< tt }, ((tt, (record { fits = sl.0.1.0 }, tt)), tt))) $
    returns ! (look_at ! 0 refl) $ free_all ! refl $ keep ! (0 ∷ 1 ∷ 2 ∷ []) $ out (live 8 (vcons w vnil)) (buffer.I16 s) same numbers)))))))
    (λ e. lands_as ! (told ∙ ap lowers.lowered e) refl (tt, (record { fits = lit< tt }, tt)) $
    first ! $ switches_on ! (get_tag ! (vrt ! refl (fld ! refl (stop !))) (whole !)) $ exec ! 𝓣.C 𝓣.Λ En (arm_body 9 (head (after 2 body))) Then $
    sets ! (addr ! (through ! refl (stop !))) refl (tt, tt) $
    use0 𝓛 (raw (fact 𝓤 (type.I32 ≡ (decoded_as h).sample_type))) (fact_i 𝓤 _ (emp 𝓤) (sym e
    ∙ is_kind)) $ join ! $ move ! (1 ∷ 0 ∷ []) $
    let S =
    MutSlice (named 0) κ i32 in let C =
    triple_of 𝓛 i32.signature (i32.spec 𝓛 𝓜.mem 𝓡.returns) in let x : C.Ghost = (y.0, tt) in
    use2 𝓛 (raw (C.pre x)) (id⊢ 𝓤 _) $
    calls_at ! fm C (i32-met 𝓤 𝓛 𝓜 𝓡 (code.calls-tiff_decode::result::DecodingResult::i32_rest 𝓡.env wired)) x (and_then ! (get ! refl) (and_then ! (get ! refl) (no_more !))) (λ u.
    use1 𝓛 (later (some (λ (s : MutBor (List ℤ)). ((‵ (flft κ q) ⊛ ‵ ftrue) ⊛ ‵ (S.own_val s (u ∷ []))) ⊛
    some (λ (ws : Lasts i32.ended κs a). ‵ (lasts i32.ended κs a ws) ⊛ (‵ (follows R (Array i32 0) r.ghost_name s.ghost_name (with_i32 h n)) ⊛ (raw (fact 𝓤 ((buffered_as (buffer.I32 s)).sample_type ≡ (decoded_as h).sample_type)) ⊛ raw (fact 𝓤 ((buffered_as (buffer.I32 s)).numbers ≡ rest n (decoded_as h).numbers)))))))) (id⊢ 𝓤 _) $
    await ! tt $ pick ! (λ s. split ! $ move ! (1
    ∷ []) $ pick ! (λ ws. split ! $ drop ! $ split ! $ move ! (1
    ∷ []) $ split ! $ heard ! _ (λ same. heard ! _ (λ numbers.
    -- [how self follows; the tokens and the slice; ..]
    move ! (1 ∷ []) $ split ! $ move ! (1 ∷ []) $ peeks ! S (Is S) (shows 𝓛 S) s (u ∷ []) (λ sl.
    let w = slice_val s.ref_ptr (length s.now) in
    rewrite ! 0 (λ (us : List Val). ‵ (S.own_val s us)) sl.0.0 refl $
    use1 𝓛 (‵ ((L κs).own_val (buffer.I32 s) (live 9 (vcons w vnil)
    ∷ []))) (wraps 𝓛 (L κs) S 9 (buffer.I32 s) s (λ us. refl) w) $
    lands_as ! (ap only sl.0.0) refl (tt, (tt, (record { fits = sl.0.1.0 }, tt))) $
    sets_last ! (agg ! (and_then ! (lit ! tt) (and_then ! (get ! refl) (no_more !)))) refl
    (tt, (record { fits = lit< tt }, ((tt, (record { fits = sl.0.1.0 }, tt)), tt))) $
    exec ! 𝓣.C 𝓣.Λ En (after 3 body) Q $
    sets ! (of_opd ! (get ! refl)) refl (tt, (record { fits = lit< tt }, ((tt, (record { fits = sl.0.1.0 }, tt)), tt))) $
    returns ! (look_at ! 0 refl) $ free_all ! refl $ keep ! (0 ∷ 1 ∷ 2 ∷ []) $ out (live 9 (vcons w vnil)) (buffer.I32 s) same numbers)))))))
    (λ e. lands_as ! (told ∙ ap lowers.lowered e) refl (tt, (record { fits = lit< tt }, tt)) $
    first ! $ switches_on ! (get_tag ! (vrt ! refl (fld ! refl (stop !))) (whole !)) $ exec ! 𝓣.C 𝓣.Λ En (arm_body 10 (head (after 2 body))) Then $
    sets ! (addr ! (through ! refl (stop !))) refl (tt, tt) $
    use0 𝓛 (raw (fact 𝓤 (type.I64 ≡ (decoded_as h).sample_type))) (fact_i 𝓤 _ (emp 𝓤) (sym e
    ∙ is_kind)) $ join ! $ move ! (1 ∷ 0 ∷ []) $
    let S =
    MutSlice (named 0) κ i64 in let C =
    triple_of 𝓛 i64.signature (i64.spec 𝓛 𝓜.mem 𝓡.returns) in let x : C.Ghost = (y.0, tt) in
    use2 𝓛 (raw (C.pre x)) (id⊢ 𝓤 _) $
    calls_at ! fm C (i64-met 𝓤 𝓛 𝓜 𝓡 (code.calls-tiff_decode::result::DecodingResult::i64_rest 𝓡.env wired)) x (and_then ! (get ! refl) (and_then ! (get ! refl) (no_more !))) (λ u.
    use1 𝓛 (later (some (λ (s : MutBor (List ℤ)). ((‵ (flft κ q) ⊛ ‵ ftrue) ⊛ ‵ (S.own_val s (u ∷ []))) ⊛
    some (λ (ws : Lasts i64.ended κs a). ‵ (lasts i64.ended κs a ws) ⊛ (‵ (follows R (Array i64 0) r.ghost_name s.ghost_name (with_i64 h n)) ⊛ (raw (fact 𝓤 ((buffered_as (buffer.I64 s)).sample_type ≡ (decoded_as h).sample_type)) ⊛ raw (fact 𝓤 ((buffered_as (buffer.I64 s)).numbers ≡ rest n (decoded_as h).numbers)))))))) (id⊢ 𝓤 _) $
    await ! tt $ pick ! (λ s. split ! $ move ! (1
    ∷ []) $ pick ! (λ ws. split ! $ drop ! $ split ! $ move ! (1
    ∷ []) $ split ! $ heard ! _ (λ same. heard ! _ (λ numbers.
    -- [how self follows; the tokens and the slice; ..]
    move ! (1 ∷ []) $ split ! $ move ! (1 ∷ []) $ peeks ! S (Is S) (shows 𝓛 S) s (u ∷ []) (λ sl.
    let w = slice_val s.ref_ptr (length s.now) in
    rewrite ! 0 (λ (us : List Val). ‵ (S.own_val s us)) sl.0.0 refl $
    use1 𝓛 (‵ ((L κs).own_val (buffer.I64 s) (live 10 (vcons w vnil)
    ∷ []))) (wraps 𝓛 (L κs) S 10 (buffer.I64 s) s (λ us. refl) w) $
    lands_as ! (ap only sl.0.0) refl (tt, (tt, (record { fits = sl.0.1.0 }, tt))) $
    sets_last ! (agg ! (and_then ! (lit ! tt) (and_then ! (get ! refl) (no_more !)))) refl
    (tt, (record { fits = lit< tt }, ((tt, (record { fits = sl.0.1.0 }, tt)), tt))) $
    exec ! 𝓣.C 𝓣.Λ En (after 3 body) Q $
    sets ! (of_opd ! (get ! refl)) refl (tt, (record { fits = lit< tt }, ((tt, (record { fits = sl.0.1.0 }, tt)), tt))) $
    returns ! (look_at ! 0 refl) $ free_all ! refl $ keep ! (0 ∷ 1 ∷ 2 ∷ []) $ out (live 10 (vcons w vnil)) (buffer.I64 s) same numbers))))))))))))))))))
