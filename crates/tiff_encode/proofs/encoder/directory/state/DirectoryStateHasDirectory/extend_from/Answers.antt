use Rattle.std.proofs.Common.{◌≡◌, refl, ap, sym, ◌∙◌, List, [], ◌∷◌, ◌++◌, ℕ, append_assoc, append-nil}
use Rattle.std.specs.FinMap.{insert}
use Rattle.tiff_base.specs.Field.{Field}
use Rattle.tiff_base.specs.Tags.{tag_number}
use Rattle.tiff_encode.specs.Calls as calls
use Rattle.tiff_encode.specs.Machine.{OpenDirectory}
use Rattle.tiff_encode.proofs.Guarding.{extended_none, extended_more, some_taken}
use Rattle.tiff_encode.proofs.encoder.directory.state.DirectoryStateHasDirectory.extend_from.Goals as goal

pub loop-tag-init : goal.loop-tag-init
loop-tag-init c =
    ([], (c.into_iter-tag-iterator.ensures.into_iter_gives ∙ c.iter-tag-items.ensures, c.self.view_is ∙ extended_none c.args.self.now))

pub loop-tag-preserved : goal.loop-tag-preserved
loop-tag-preserved c =
    let i = c.loop-tag.invariant in
    let done : List (ℕ × Field) = i.0 in
    let inside = c.loop-tag.self-inside in
    let now : OpenDirectory =
    record { fields = inside.directory.entries; parent = inside.parent; chained = inside.chained } in
    let field : Field = c.in-Some.entry.now in
    let number : ℕ = tag_number c.in-Some.tag in
    let same : c.new_u64-copy.result ≡ field =
    c.new_u64-copy.ensures
    ∙ (λ k. record { field_type = c.field_type.ensures k; count = c.count.ensures k; value = c.value.ensures k }) in
    let fields : c.insert.new.self.entries ≡ insert inside.directory.entries number field =
    ap (λ d. d.entries) c.in-Ok.ensures.ok
    ∙ ap (λ n. insert inside.directory.entries n c.new_u64-copy.result) c.to_u16.ensures
    ∙ ap (insert inside.directory.entries number) same in (
      done ++ (number, field) ∷ [],
      (
        append_assoc done ((number, field) ∷ []) c.next.new.self
            ∙ (ap (λ rest. done ++ rest) (sym c.in-Some.ensures.steps.0) ∙ i.1.0),
        (λ k. record { fields = fields k; parent = inside.parent; chained = inside.chained })
            ∙ extended_more c.args.self.now now done number field i.1.1,
      ),
    )

pub returns-in-Err-clause-set : goal.returns-in-Err-clause-set
returns-in-Err-clause-set c =
    let i = c.loop-tag.invariant in
    let inside = c.loop-tag.self-inside in
    let now : OpenDirectory =
    record { fields = c.insert.new.self.entries; parent = inside.parent; chained = inside.chained } in
    let fields : c.insert.new.self.entries ≡ inside.directory.entries =
    ap (λ d. d.entries) c.in-Err.ensures.err in
    let same : now ≡ calls.extend_from c.args.self.now i.0 =
    (λ k. record { fields = fields k; parent = inside.parent; chained = inside.chained }) ∙ i.1.1 in
    (refl, some_taken c.args.self.now now i.0 c.loop-tag.tag-iterator _ i.1.0 same)

pub returns-clause-set : goal.returns-clause-set
returns-clause-set c =
    let i = c.loop-tag.invariant in
    let whole : i.0 ≡ _ =
    sym (append-nil i.0) ∙ (ap (λ rest. i.0 ++ rest) (sym c.in-None.ensures.steps.0.0)
    ∙ i.1.0) in
    i.1.1 ∙ ap (calls.extend_from c.args.self.now) whole
