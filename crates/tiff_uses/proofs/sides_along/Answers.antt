use Rattle.std.proofs.Common.{◌≡◌, Err, rules}
use Rattle.tiff_uses.specs.Pages.{page_sides}
use Rattle.tiff_uses.proofs.Standing.{all_sides, begun, fewer_left, first_listed, next_listed, refused_next, sides_told_always}
use Rattle.tiff_uses.proofs.sides_along.Goals as goal

pub pages-init : goal.pages-init
pages-init c =
    first_listed c.walk_opens.ensures c.args.decoder.now c.dimensions.new.self c.in_ok-dimensions.field-0 c.new-sides.result.items c.push.new.self.items
    c.requires c.in_ok-dimensions.ensures c.new-sides.ensures.items c.in_ok-push.ensures.items

pub pages-preserved : goal.pages-preserved
pages-preserved c =
    next_listed c.walk_goes_on.ensures (begun c.args.decoder.now) c.pages.decoder c.next_image.new.self c.dimensions-in-pages.new.self c.in_ok-dimensions-2.field-0
    c.pages.sides.items c.push-in-pages.new.self.items c.pages.invariant (cc (c.more_images.ensures, c.pages-test.true)) c.in_ok-next_image.ensures.follows c.in_ok-dimensions-2.ensures c.in_ok-push-2.ensures.items

pub pages-smaller : goal.pages-smaller
pages-smaller c =
    fewer_left c.walk_goes_on.ensures (begun c.args.decoder.now) c.pages.decoder c.next_image.new.self c.dimensions-in-pages.new.self c.in_ok-dimensions-2.field-0
    c.pages.sides.items c.push-in-pages.new.self.items c.pages.invariant (cc (c.more_images.ensures, c.pages-test.true)) c.in_ok-next_image.ensures.follows c.in_ok-dimensions-2.ensures c.in_ok-push-2.ensures.items

pub returns-in_err-dimensions : goal.returns-in_err-dimensions
returns-in_err-dimensions c =
    let told =
    sides_told_always (page_sides c.args.decoder.now.bytes
    ≡ Err c.in_err-dimensions.field-0.0) c.args.decoder.now c.dimensions.new.self c.in_err-dimensions.field-0.0
    c.in_err-dimensions.ensures in
    search rules

pub returns-in_err-next_image : goal.returns-in_err-next_image
returns-in_err-next_image c =
    let told =
    refused_next c.walk_goes_on.ensures c.args.decoder.now.bytes (begun c.args.decoder.now) c.pages.decoder c.next_image.new.self c.pages.sides.items _
    c.in_err-next_image.field-0.0 c.requires c.pages.invariant (cc (c.more_images.ensures, c.pages-test.true)) c.in_err-next_image.ensures.follows in
    search rules

pub returns-in_err-dimensions-2 : goal.returns-in_err-dimensions-2
returns-in_err-dimensions-2 c =
    let told =
    sides_told_always (page_sides c.args.decoder.now.bytes
    ≡ Err c.in_err-dimensions-2.field-0.0) c.next_image.new.self c.dimensions-in-pages.new.self
    c.in_err-dimensions-2.field-0.0 c.in_err-dimensions-2.ensures in
    search rules

pub returns : goal.returns
returns c =
    all_sides c.walk_ends.ensures c.args.decoder.now.bytes (begun c.args.decoder.now) c.pages.decoder c.pages.sides.items c.requires c.pages.invariant
    (cc (c.more_images.ensures, c.pages-test.false))
