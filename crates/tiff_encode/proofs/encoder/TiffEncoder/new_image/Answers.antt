use Rattle.std.proofs.Common.{Ok, refl}
use Rattle.std.proofs.lemmas.Result.{err_from_is_err_and}
use Rattle.tiff_base.specs.Types.{type_size}
use Rattle.tiff_encode.proofs.Image.Guard.{new_left, new_left_err}
use Rattle.tiff_encode.proofs.encoder.TiffEncoder.new_image.Goals as goal

pub returns : goal.returns
returns g c = (
  (refl, (λ w. refl), tt),
  record {
    rests = tt;
    same_reference = refl;
    begun = c.in_ok-image.ensures;
    leaves =
        λ m s. new_left g.C.ColorType.described (type_size g.C.Inner.TiffValue.value_type) c.args.width c.args.height (λ i. i) (Ok c.in_ok-image.image)
        c.args.self.now c.begin_image.new.self m c.fact_fits.ensures s c.in_ok-image.ensures;
  },
)

pub returns-in_err-image : goal.returns-in_err-image
returns-in_err-image g c =
    let p = err_from_is_err_and c.from_residual.result c.from_residual.ensures.1 in
    rw (p.1, p.2) (
      (
        refl,
        (λ w. tt),
        (
          c.in_err-image.ensures,
          λ m s. new_left_err g.C.ColorType.described (type_size g.C.Inner.TiffValue.value_type) c.args.width c.args.height c.in_err-image.field-0.0
              c.args.self.now c.begin_image.new.self m c.in_err-image.ensures s,
        ),
      ),
      record { rests = tt; same_reference = tt; begun = tt; leaves = λ m s. tt },
    )
