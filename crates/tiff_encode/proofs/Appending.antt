-- Which calls only append, and that the end of a directory changes no link except its parent's.
use Rattle.std.proofs.Common.{◌≡◌, ℕ, Bool, true, false, List, ◌∷◌, ◌++◌, length, Option, Some, None, Result, Ok, Err, refl, ap, sym, ◌∙◌, subst, append-nil}
use Rattle.std.specs.FinMap.{FinMap, len}
use Rattle.std.specs.Ordering.{nat_cmp}
use Rattle.tiff_base.specs.declared.error.TiffError.{TiffError}
use Rattle.tiff_base.specs.Field.{Field}
use Rattle.tiff_base.specs.Number.{le}
use Rattle.tiff_base.specs.SourceAndSink.{put}
use Rattle.tiff_value.specs.ColorType.{ColorTypeRecord}
use Rattle.tiff_value.specs.FileBytes.{offset_len, directory_bytes}
use Rattle.tiff_encode.specs.FileWrites.{file_with_bytes}
use Rattle.tiff_value.specs.WriteOps.{WriteOp, Listed, all_appended}
use Rattle.tiff_encode.specs.Machine.{FileState, OpenDirectory, OpenImage, WriteOutcome, WriteCall, does, by_cause, and_then, ◌>>=◌}
use Rattle.tiff_encode.specs.Causes.{finish_cause, write_image_data_cause}
use Rattle.tiff_encode.specs.Calls.{Offsets, offsets_of, links_to, chains, finish, write_tags, last_tags, finish_image, write_chunks, write_image_data, new_image, write_image}
use Rattle.tiff_encode.specs.Chunks.{parts_left}
use Rattle.tiff_encode.specs.AppendLaws.{DirectoryCallsAppend, ImageCallsAppend, linked_by, LinksParent, EndsLinkParent}
use Rattle.tiff_encode.proofs.Joining.{IsAdding, appended_both, begin_adds, extra_adds, entry_adds, entry_bytes_adds, tag_adds}
use Rattle.tiff_encode.proofs.Joining.{entry_buf_adds, tag_buf_adds, data_adds, data_buf_adds}
use Rattle.tiff_encode.proofs.Open.Tags.{tags_adding}
use Rattle.tiff_encode.proofs.Image.Table.{Extra, Rows, Sides, Planes, Both, Across, Down, Measure, setting_adding}
use Rattle.tiff_encode.proofs.Data.Strips.{strip_adding}
use Rattle.tiff_encode.proofs.Data.Chunks.{chunk_adds, chunks_adding, directory_kept, tags_placed}
use Rattle.tiff_encode.proofs.Data.Begun.{new_adding, new_is}

-- ---- calls that append

pub directory_calls_append : DirectoryCallsAppend
directory_calls_append = record {
  begun = λ file. (begin_adds file).next;
  begun_extra = λ file. (extra_adds file).next;
  entry = λ value file. (entry_adds value file).next;
  entry_buf = λ b file. (entry_buf_adds b file).next;
  entry_bytes = λ type bytes file. (entry_bytes_adds type bytes file).next;
  tag = λ d t value file. (tag_adds d t value file).next;
  tag_buf = λ d t b file. (tag_buf_adds d t b file).next;
  loose_value = λ value file. (data_adds value file).next;
  loose_buf = λ b file. (data_buf_adds b file).next;
}

pub image_calls_append : ImageCallsAppend
image_calls_append = record {
  begun = λ color size width height file. (new_adding color size width height file).next;
  extra = λ i extra file. (setting_adding (Extra extra) i file).next;
  rows = λ i rows file. (setting_adding (Rows rows) i file).next;
  sides = λ i width length file. (setting_adding (Sides width length) i file).next;
  planes = λ i file. (setting_adding Planes i file).next;
  both = λ i u value file. (setting_adding (Both u value) i file).next;
  across = λ i value file. (setting_adding (Across value) i file).next;
  down = λ i value file. (setting_adding (Down value) i file).next;
  unit = λ i u file. (setting_adding (Measure u) i file).next;
  strip = λ i count stored file. (strip_adding i count stored file).next;
  chunk = λ i count stored file. (chunk_adds i count stored file).next;
}

-- ---- ends

-- the end of a directory changes no link except its parent's, whether its checks refuse it or not
finish_links : (cause : Option TiffError) (parent : Option ℕ) (chained : Bool)
    (fields : FinMap nat_cmp Field) (offsets : Offsets) (file : FileState)
    → offsets.pointer ≡ length file.bytes
    → LinksParent parent (by_cause cause (does (Listed fields ∷ links_to parent (length file.bytes))
    >>= (λ _. chains chained offsets)) file) file
finish_links (Some e) parent chained fields offsets file p = sym (append-nil file.bytes)
finish_links None None true fields offsets file p =
    ap (λ xs. file.bytes ++ xs) (sym (append-nil (directory_bytes file.kind fields)))
finish_links None None false fields offsets file p =
    ap (λ xs. file.bytes ++ xs) (sym (append-nil (directory_bytes file.kind fields)))
finish_links None (Some parent) true fields offsets file p =
    λ i. put (file.bytes ++ sym (append-nil (directory_bytes file.kind fields)) i) parent
    (le (offset_len file.kind) (sym p i))
finish_links None (Some parent) false fields offsets file p =
    λ i. put (file.bytes ++ sym (append-nil (directory_bytes file.kind fields)) i) parent
    (le (offset_len file.kind) (sym p i))

directory_links : (d : OpenDirectory) (file : FileState) → LinksParent d.parent (finish d file) file
unfolding finish
directory_links d file =
    finish_links (finish_cause file d) d.parent d.chained d.fields
    (offsets_of file.kind (length file.bytes) (len d.fields)) file refl

-- a call that only appends, followed by the end of a directory, changes no other link
module _ {A : Type 0} (parent : Option ℕ) (rest : A → WriteCall Offsets) where
  joined_links : (r : Result A TiffError) (ops : List WriteOp) (next file : FileState)
      → next ≡ file_with_bytes file (all_appended file.kind ops)
      → ((x : A) → r ≡ Ok x → LinksParent parent (rest x next) next)
      → LinksParent parent (and_then r ops next rest) file
  joined_links (Err e) ops next file n l = ap (λ f. f.bytes) n
  joined_links (Ok x) ops next file n l =
      let second : WriteOutcome Offsets = rest x next in
      let grown : LinksParent parent second (file_with_bytes file (all_appended file.kind ops)) =
      subst (λ f. LinksParent parent second f) n (l x refl) in
      grown ∙ ap (linked_by second.answer file.kind parent) (appended_both file.kind file.bytes ops second.ops)

bind_links : {A : Type 0} (parent : Option ℕ) (call : WriteCall A) (rest : A → WriteCall Offsets)
    (file : FileState) → IsAdding (call file) file
    → ((x : A) → (call file).answer ≡ Ok x → LinksParent parent (rest x (call file).next) (call file).next)
    → LinksParent parent ((call >>= rest) file) file
bind_links parent call rest file a l =
    joined_links parent rest (call file).answer (call file).ops (call file).next file a.next l

caused_links : (parent : Option ℕ) (cause : Option TiffError) (call : WriteCall Offsets)
    (file : FileState) → LinksParent parent (call file) file
    → LinksParent parent (by_cause cause call file) file
caused_links parent None call file l = l
caused_links parent (Some e) call file l = sym (append-nil file.bytes)

image_links : (i : OpenImage) (file : FileState)
    → LinksParent i.directory.parent (finish_image i file) file
unfolding finish_image
image_links i file =
    let call : WriteCall OpenDirectory = write_tags i.directory (last_tags file.kind i) in
    let mid : FileState = (call file).next in
    bind_links i.directory.parent call finish file (tags_adding i.directory (last_tags file.kind i) file)
    (λ d h. subst (λ p. LinksParent p (finish d mid) mid) (tags_placed i.directory d (last_tags file.kind i) file h).parent (directory_links d mid))

data_links : (i : OpenImage) (samples : List ℕ) (stored : List (List ℕ)) (file : FileState)
    → LinksParent i.directory.parent (write_image_data i samples stored file) file
unfolding write_image_data
data_links i samples stored file =
    let call : WriteCall OpenImage = write_chunks i (parts_left i samples) stored in
    let mid : FileState = (call file).next in
    caused_links i.directory.parent (write_image_data_cause file i (length samples)) (call
    >>= finish_image) file
    (bind_links i.directory.parent call finish_image file (chunks_adding i (parts_left i samples) stored file)
    (λ last h. subst (λ p. LinksParent p (finish_image last mid) mid)
    (ap (λ d. d.parent) (directory_kept i (parts_left i samples) stored last file h)) (image_links last mid)))

whole_links : (color : ColorTypeRecord) (size width height : ℕ) (samples : List ℕ)
    (stored : List (List ℕ)) (file : FileState)
    → LinksParent (Some file.chain) (write_image color size width height samples stored file) file
unfolding write_image
whole_links color size width height samples stored file =
    let call : WriteCall OpenImage = new_image color size width height in
    let mid : FileState = (call file).next in
    bind_links (Some file.chain) call (λ i. write_image_data i samples stored) file
    (new_adding color size width height file)
    (λ i h.
    let n = new_is color size width height file i h in
    let parent : i.directory.parent ≡ Some file.chain =
    ap (λ j. j.directory.parent) (sym n.1.0) ∙ n.1.1.parent in
    subst (λ p. LinksParent p (write_image_data i samples stored mid) mid) parent (data_links i samples stored mid))

pub ends_link_parent : EndsLinkParent
ends_link_parent =
    record { directory = directory_links; image = image_links; samples = data_links; whole = whole_links }
