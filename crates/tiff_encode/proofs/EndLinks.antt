-- After a directory or an image ends, its own link is a link of the model. The last link of the
-- chain stays a link of the model.
use Rattle.std.proofs.Common.{◌≡◌, ℕ, inl, inr, Bool, true, false, List, [], ◌∷◌, ◌++◌, Option, Some, None, Result, Ok, Err, refl, ap, sym, ◌∙◌, subst}
use Rattle.std.specs.FinMap.{len}
use Rattle.tiff_base.specs.declared.error.TiffError.{TiffError}
use Rattle.tiff_base.specs.Directory.{link_offset}
use Rattle.tiff_value.specs.Data.{Scalars}
use Rattle.tiff_base.specs.declared.tags.Tag.{Tag}
use Rattle.tiff_value.specs.Model.{FinishedDirectory, Model, IsLink, with_directory}
use Rattle.tiff_value.specs.WriteOps.{WriteOp, Listed, after_op, model_after, standing_fields}
use Rattle.tiff_encode.specs.Machine.{FileState, OpenDirectory, OpenImage, WriteOutcome, WriteCall, does, after_ops, by_cause, and_then, ◌>>=◌}
use Rattle.tiff_encode.specs.Chunks.{parts_left}
use Rattle.tiff_encode.specs.Causes.{end_of, finish_cause, write_image_data_cause}
use Rattle.tiff_encode.specs.Calls.{Offsets, offsets_of, links_to, chain_after, chains, finish, write_tags, last_tags, finish_image, write_chunks, write_image_data}
use Rattle.tiff_encode.specs.Open.{model_by}
use Rattle.tiff_base.specs.lemmas.Slices.{ok_inj}
use Rattle.tiff_value.specs.lemmas.File.FileAndModel.{len_standing}
use Rattle.tiff_value.specs.lemmas.File.WriteOps.{ops_grow, link_kept}
use Rattle.tiff_encode.proofs.Leaving.{ok_err}
use Rattle.tiff_encode.proofs.Joining.{IsAdding}
use Rattle.tiff_encode.proofs.Open.Tags.{tags_adding}
use Rattle.tiff_encode.proofs.Data.Calls.{behind_model}
use Rattle.tiff_encode.proofs.Image.FitsCalls.{adding_done}
use Rattle.tiff_encode.proofs.Data.Chunks.{chunks_adding}

-- After a directory ends, its own link is a link of the model, and so is the last link of the chain
-- if it is a link before. A call that is refused keeps the chain.
pub record EndLinks (told : WriteOutcome Offsets) (file : FileState) (m : Model) : Type 0 where
  pub own : (offsets : Offsets) → told.answer ≡ Ok offsets
      → IsLink file.kind (model_by file m told) offsets.link
  pub chain : (offsets : Offsets) → told.answer ≡ Ok offsets → IsLink file.kind m file.chain
      → IsLink file.kind (model_by file m told) told.next.chain
  pub refused : (e : TiffError) → told.answer ≡ Err e → told.next.chain ≡ file.chain

-- the links after a call that its checks may refuse
caused_links : (cause : Option TiffError) (call : WriteCall Offsets) (file : FileState) (m : Model)
    → EndLinks (call file) file m
    → EndLinks (by_cause cause call file) file m
caused_links None call file m l = l
caused_links (Some e) call file m l = record {
  own = λ offsets h. absurd (ok_err (sym h));
  chain = λ offsets h. absurd (ok_err (sym h));
  refused = λ f h. refl;
}

-- the links after two calls, the second of which ends a directory
module _ {A : Type 0} (rest : A → WriteCall Offsets) (file : FileState) (m : Model) where
  joined_links : (r : Result A TiffError) (ops : List WriteOp) (next : FileState)
      → (let first : WriteOutcome A = record { answer = r; ops = ops; next = next } in IsAdding first file)
      → ((x : A) → r ≡ Ok x → EndLinks (rest x next) next (model_after file.kind file.bytes m ops))
      → EndLinks (and_then r ops next rest) file m
  joined_links (Err e) ops next a l = record {
    own = λ offsets h. absurd (ok_err (sym h));
    chain = λ offsets h. absurd (ok_err (sym h));
    refused = λ f h. ap (λ s. s.chain) a.next;
  }
  joined_links (Ok x) ops next a l =
      let first : WriteOutcome A = record { answer = Ok x; ops = ops; next = next } in
      let second : WriteOutcome Offsets = rest x next in
      let n : Model = model_by file m first in
      let kind = ap (λ s. s.kind) a.next in
      let chain = ap (λ s. s.chain) a.next in
      let here : (q : ℕ) → IsLink next.kind (model_by next n second) q
      → IsLink file.kind (model_by file m (after_ops ops second)) q = λ q i.
      subst (λ k. IsLink file.kind k q) (sym (behind_model first second file m (adding_done first file a)))
      (subst (λ kind. IsLink kind (model_by next n second) q) kind i) in
      record {
        own = λ offsets h. here offsets.link ((l x refl).own offsets h);
        chain = λ offsets h i.
            here second.next.chain ((l x refl).chain offsets h
            (subst (λ kind. IsLink kind n next.chain) (sym kind)
            (subst (λ q. IsLink file.kind n q) (sym chain)
            (link_kept file.kind m n file.chain (ops_grow file.kind file.bytes m ops) i))));
        refused = λ e h. (l x refl).refused e h ∙ chain;
      }

bind_links : {A : Type 0} (call : WriteCall A) (rest : A → WriteCall Offsets) (file : FileState)
    (m : Model) → IsAdding (call file) file
    → ((x : A) → (call file).answer ≡ Ok x → EndLinks (rest x (call file).next) (call file).next (model_by file m (call file)))
    → EndLinks ((call >>= rest) file) file m
bind_links call rest file m a l =
    joined_links rest file m (call file).answer (call file).ops (call file).next a l

-- the last link of the chain is that of a chained directory, or it stays the same
pub chain_among : (chained : Bool) (file : FileState) (offsets : Offsets) (P : ℕ → Type 0)
    → P offsets.link → P file.chain
    → P (chain_after file chained offsets).chain
chain_among true file offsets P own kept = own
chain_among false file offsets P own kept = kept

-- ---- ends

pub finish_links : (d : OpenDirectory) (file : FileState) (m : Model)
    → EndLinks (finish d file) file m
unfolding finish
finish_links d file m =
    let offset : Offsets = offsets_of file.kind (end_of file) (len d.fields) in
    let links : List WriteOp = links_to d.parent (end_of file) in
    let call : WriteCall Offsets =
    does (Listed d.fields ∷ links) >>= (λ _. chains d.chained offset) in
    let listed : FinishedDirectory =
    record { offset = end_of file; fields = standing_fields file.kind d.fields } in
    let after : Model = model_by file m (call file) in
    let grown =
    ops_grow file.kind (after_op file.kind file.bytes (Listed d.fields))
    (with_directory file.kind m listed) (links ++ []) in
    let own : IsLink file.kind after offset.link =
    inr (listed, (grown.directories listed (inl refl), ap (link_offset file.kind (end_of file)) (sym (len_standing file.kind d.fields)))) in
    let kept : IsLink file.kind m file.chain → IsLink file.kind after file.chain =
    link_kept file.kind m after file.chain (ops_grow file.kind file.bytes m (Listed d.fields ∷ links
    ++ [])) in
    let P : ℕ → Type 0 = λ q. IsLink file.kind after q in
    caused_links (finish_cause file d) call file m (record {
      own = λ offsets h. subst (λ o. IsLink file.kind after o.link) (ok_inj offset offsets h) own;
      chain =
          λ offsets h i. chain_among d.chained (does (Listed d.fields
          ∷ links) file).next offset P own (kept i);
      refused = λ e h. absurd (ok_err h);
    })

pub image_links : (i : OpenImage) (file : FileState) (m : Model)
    → EndLinks (finish_image i file) file m
unfolding finish_image
image_links i file m =
    let values : List (Tag × Scalars) = last_tags file.kind i in
    let call : WriteCall OpenDirectory = write_tags i.directory values in
    bind_links call finish file m (tags_adding i.directory values file)
    (λ d _. finish_links d (call file).next (model_by file m (call file)))

pub data_links : (i : OpenImage) (samples : List ℕ) (stored : List (List ℕ)) (file : FileState) (m : Model)
    → EndLinks (write_image_data i samples stored file) file m
unfolding write_image_data
data_links i samples stored file m =
    let parts : List (List ℕ) = parts_left i samples in
    let call : WriteCall OpenImage = write_chunks i parts stored in
    caused_links (write_image_data_cause file i _) (call >>= finish_image) file m
    (bind_links call finish_image file m (chunks_adding i parts stored file)
    (λ last _. image_links last (call file).next (model_by file m (call file))))
