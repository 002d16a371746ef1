use Rattle.std.proofs.Common.{◌≡◌, Result, Ok, Err, refl, ap}
use Rattle.std.specs.Prelude.{OnErr}
use Rattle.std.specs.FinMap.{entries}
use Rattle.tiff_base.specs.declared.error.TiffError.{TiffError}
use Rattle.tiff_encode.specs.declared.encoder.script.StepReply.TheVariants as reply
use Rattle.tiff_encode.specs.Calls as calls
use Rattle.tiff_encode.specs.JobValues.{buffer_in, value_data}
use Rattle.tiff_encode.proofs.DirectoryMoves.{stepped_by, changed, replied, extended}
use Rattle.tiff_encode.proofs.Joining.{entry_adds, entry_bytes_adds, tag_adds, entry_buf_adds, tag_buf_adds, data_adds, data_buf_adds}
use Rattle.tiff_encode.proofs.encoder.directory.encoder.DirectoryEncoder.step.Goals as goal

-- if an error keeps a state, it keeps the directory of the state
directory_kept : {S D A : Type 0} (f : S → D) (r : Result A TiffError) (x y : S) → OnErr r (x ≡ y)
    → OnErr r (f x ≡ f y)
directory_kept f (Ok a) x y h = tt
directory_kept f (Err e) x y h = ap f h

pub returns-in-WriteTag-clause-moves : goal.returns-in-WriteTag-clause-moves
returns-in-WriteTag-clause-moves g c =
    let d = g.D.HasDirectory.open_directory in
    let old = c.args.self.now in
    let t = c.in-WriteTag.tag in
    let v = value_data c.in-WriteTag.value in
    let h = c.write_job_tag.ensures in
    stepped_by (d old.state) _ c.in-WriteTag.is c.replied.ensures
    (changed (d old.state) _ (calls.write_tag (d old.state) t v) c.write_job_tag.result (tag_adds (d old.state) t v old.encoder.now) h.answer h.leaves (directory_kept d c.write_job_tag.result _ _ h.stays))

pub returns-in-WriteTagBuf-clause-moves : goal.returns-in-WriteTagBuf-clause-moves
returns-in-WriteTagBuf-clause-moves g c =
    let d = g.D.HasDirectory.open_directory in
    let old = c.args.self.now in
    let t = c.in-WriteTagBuf.tag in
    let v = buffer_in c.in-WriteTagBuf.buffer in
    let h = c.write_job_tag-in-WriteTagBuf.ensures in
    stepped_by (d old.state) _ c.in-WriteTagBuf.is c.replied-in-WriteTagBuf.ensures
    (changed (d old.state) _ (calls.write_tag_buf (d old.state) t v) c.write_job_tag-in-WriteTagBuf.result (tag_buf_adds (d old.state) t v old.encoder.now) h.answer h.leaves (directory_kept d c.write_job_tag-in-WriteTagBuf.result _ _ h.stays))

pub returns-in-WriteData-clause-moves : goal.returns-in-WriteData-clause-moves
returns-in-WriteData-clause-moves g c =
    let d = g.D.HasDirectory.open_directory c.args.self.now.state in
    let v = value_data c.in-WriteData.value in
    let h = c.append_job_value.ensures in
    stepped_by d d c.in-WriteData.is c.numbered.ensures
    (replied d d reply.Number (calls.write_data v) c.append_job_value.result (data_adds v c.args.self.now.encoder.now) h.answer h.leaves refl)

pub returns-in-WriteDataBuf-clause-moves : goal.returns-in-WriteDataBuf-clause-moves
returns-in-WriteDataBuf-clause-moves g c =
    let d = g.D.HasDirectory.open_directory c.args.self.now.state in
    let v = buffer_in c.in-WriteDataBuf.buffer in
    let h = c.append_job_buffer.ensures in
    stepped_by d d c.in-WriteDataBuf.is c.numbered-in-WriteDataBuf.ensures
    (replied d d reply.Number (calls.write_data_buf v) c.append_job_buffer.result (data_buf_adds v c.args.self.now.encoder.now) h.answer h.leaves refl)

pub returns-in-WriteEntry-clause-moves : goal.returns-in-WriteEntry-clause-moves
returns-in-WriteEntry-clause-moves g c =
    let d = g.D.HasDirectory.open_directory c.args.self.now.state in
    let v = value_data c.in-WriteEntry.value in
    let h = c.place_job_value.ensures in
    stepped_by d d c.in-WriteEntry.is c.written.ensures
    (replied d d reply.Written (calls.write_entry v) c.place_job_value.result (entry_adds v c.args.self.now.encoder.now) h.answer h.leaves refl)

pub returns-in-WriteEntryBuf-clause-moves : goal.returns-in-WriteEntryBuf-clause-moves
returns-in-WriteEntryBuf-clause-moves g c =
    let d = g.D.HasDirectory.open_directory c.args.self.now.state in
    let v = buffer_in c.in-WriteEntryBuf.buffer in
    let h = c.place_job_buffer.ensures in
    stepped_by d d c.in-WriteEntryBuf.is c.written-in-WriteEntryBuf.ensures
    (replied d d reply.Written (calls.write_entry_buf v) c.place_job_buffer.result (entry_buf_adds v c.args.self.now.encoder.now) h.answer h.leaves refl)

pub returns-in-WriteEntryBytes-clause-moves : goal.returns-in-WriteEntryBytes-clause-moves
returns-in-WriteEntryBytes-clause-moves g c =
    let d = g.D.HasDirectory.open_directory in
    let old = c.args.self.now in
    let type = c.in-WriteEntryBytes.field_type in
    let bytes = c.deref.result.now in
    let h = c.write_entry_bytes.ensures in
    let e = d c.write_entry_bytes.new.self.state in
    stepped_by (d old.state) e c.in-WriteEntryBytes.is c.written-in-WriteEntryBytes.ensures
    (rw c.deref.ensures.value at (replied (d old.state) e reply.Written (calls.write_entry_bytes type bytes) c.write_entry_bytes.result (entry_bytes_adds type bytes old.encoder.now) h.answer h.leaves (ap d h.stays)))

pub returns-in-ExtendFrom-clause-moves : goal.returns-in-ExtendFrom-clause-moves
returns-in-ExtendFrom-clause-moves g c =
    let d = g.D.HasDirectory.open_directory in
    let h = c.extend_from.ensures in
    stepped_by (d c.args.self.now.state) _ c.in-ExtendFrom.is c.replied-in-ExtendFrom.ensures
    (extended (d c.args.self.now.state) _ (entries c.in-ExtendFrom.directory.entries) c.extend_from.result h.state h.stays)
