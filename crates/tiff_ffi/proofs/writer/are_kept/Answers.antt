use Rattle.std.proofs.Common.{rules, ◌≡◌, ◌*◌, ◌^◌, ◌<◌, length, sym, ◌∙◌, arith}
use Rattle.std.proofs.lemmas.Bool.{eqb-true}
use Rattle.tiff_base.specs.Types.{type_size}
use Rattle.tiff_value.specs.ColorType.{columns_of}
use Rattle.tiff_ffi.proofs.writer.are_kept.Goals as goal

pub returns-in-Some-checked_mul : goal.returns-in-Some-checked_mul
returns-in-Some-checked_mul g c =
    let image = c.args.image.now in
    let all =
    columns_of g.C.ColorType.described image.width * image.height * length g.C.ColorType.described.bits in
    let same : c.in-Some.samples ≡ all = search rules in
    let few : c.in-Some.samples < 2 ^ 64 = search rules in
    let size : c.from-3.result ≡ type_size g.C.Inner.TiffValue.value_type = search rules in
    let bytes : c.in-Some-checked_mul.bytes ≡ c.in-Some.samples * c.from-3.result = search rules in
    λ t. record {
      packs = search rules;
      differs = search rules;
      whole =
          sym (eqb-true c.in-Some-checked_mul.bytes c.args.len t) ∙ bytes ∙ (λ j. same j * size j);
      few = omega (arith, few, same);
    }
