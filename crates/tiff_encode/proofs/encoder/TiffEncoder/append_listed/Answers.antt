use Rattle.std.proofs.Common.{◌≡◌, ◌-◌, length, None, ap, sym, ◌∙◌, subst}
use Rattle.tiff_base.specs.Field.{AreEntries}
use Rattle.tiff_encode.specs.Machine.{OpenDirectory}
use Rattle.tiff_encode.specs.FileWrites.{file_with_bytes}
use Rattle.tiff_value.specs.FileBytes.{offset_len, directory_bytes}
use Rattle.tiff_encode.proofs.Ending.{own_link_is, own_link_within}
use Rattle.tiff_encode.proofs.encoder.TiffEncoder.append_listed.Goals as goal

pub returns : goal.returns
returns g c =
    let old = c.args.self.now in
    let new = c.append.new.self in
    let d : OpenDirectory = c.args.fields.now in
    let all =
    subst {A = OpenDirectory} (λ x. AreEntries x.fields) c.fields.view_is c.entries_fit.ensures in
    let kind : c.file_kind-kind.result ≡ old.kind =
    c.file_kind-kind.ensures ∙ ap (λ m. m.kind) c.self.view_is in
    let fields = ap {A = OpenDirectory} (λ x. x.fields) c.fields.view_is in
    let bytes : c.deref.result.now ≡ directory_bytes old.kind d.fields
    = c.deref.ensures.value ∙ c.in-Ok.ensures ∙ λ i. directory_bytes (kind i) (fields i) in
    let state : new ≡ file_with_bytes old (directory_bytes old.kind d.fields) =
    c.in_ok-append.ensures.1 ∙ ap (file_with_bytes old) bytes in
    let fresh : new.fault ≡ None = ap (λ m. m.fault) c.in_ok-append.ensures.1 ∙ c.requires in
    let at : c.offset.result ≡ length new.bytes
    = c.offset.ensures.offset ∙ c.self-2.invariant.at_end (ap (λ m. m.fault) c.self-2.view_is ∙ fresh) ∙ ap (λ m. length m.bytes) c.self-2.view_is in
    let width : c.offset_size.result ≡ offset_len old.kind =
    c.offset_size.ensures ∙ ap offset_len kind in
    let link =
    own_link_is old new d.fields c.offset_size.result c.offset.result all state at width in
    record {
      listed = (link, state);
      last =
          own_link_within old new d.fields (c.offset.result - c.offset_size.result) g.K.TiffKind.kind all state link (ap (λ m. m.kind) (sym c.self.view_is));
    }
