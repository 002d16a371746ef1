-- Jobs that are run behind a file keep its bytes, except those of its last link.
use Rattle.std.proofs.Common.{◌≡◌, ℕ, ◌+◌, ◌≤◌, ◌⊎◌, true, false, List, [], ◌∷◌, ◌++◌, length, take, Option, Some, None, Result, Ok, Err, refl, ap, sym, ◌∙◌, inl, inr, subst, arith, length-append}
use Rattle.std.proofs.lemmas.List.{length-take-le}
use Rattle.std.specs.FinMap.{len}
use Rattle.tiff_base.specs.declared.error.TiffError.{TiffError}
use Rattle.tiff_base.specs.declared.tags.FileKind.{FileKind}
use Rattle.tiff_base.specs.Number.{le}
use Rattle.tiff_base.specs.SourceAndSink.{put}
use Rattle.tiff_value.specs.Data.{Scalars}
use Rattle.tiff_base.specs.declared.tags.Tag.{Tag}
use Rattle.tiff_value.specs.ColorTypes.{color_type, inner_size}
use Rattle.tiff_encode.specs.declared.encoder.script.DirectoryEnd.{DirectoryEnd}
use Rattle.tiff_encode.specs.declared.encoder.script.DirectoryEnd.TheVariants as end
use Rattle.tiff_encode.specs.declared.encoder.script.ImageEnd.{ImageEnd}
use Rattle.tiff_encode.specs.declared.encoder.script.ImageEnd.TheVariants as iend
use Rattle.tiff_encode.specs.declared.encoder.script.DirectoryJob.{DirectoryJob}
use Rattle.tiff_encode.specs.declared.encoder.script.ImageJob.{ImageJob}
use Rattle.tiff_encode.specs.declared.encoder.script.EndReply.{EndReply}
use Rattle.tiff_encode.specs.declared.encoder.script.EndReply.TheVariants as last
use Rattle.tiff_encode.specs.declared.encoder.script.Job.{Job}
use Rattle.tiff_encode.specs.declared.encoder.script.Job.TheVariants as job
use Rattle.tiff_encode.specs.declared.encoder.script.JobReply.{JobReply}
use Rattle.tiff_encode.specs.Appending.{Continues, LinksFrom, continued_file}
use Rattle.tiff_value.specs.FileBytes.{offset_len}
use Rattle.tiff_value.specs.Model.{In, IsLink, Model, header_model}
use Rattle.tiff_value.specs.WriteOps.{WriteOp, Appended, Supplied, Listed, Linked, all_appended, bytes_after}
use Rattle.tiff_encode.specs.Machine.{FileState, OpenDirectory, OpenImage, WriteOutcome, WriteCall, does, by_cause, and_then, ◌>>=◌}
use Rattle.tiff_encode.specs.Chunks.{parts_left}
use Rattle.tiff_encode.specs.Causes.{end_of, finish_cause, write_image_data_cause}
use Rattle.tiff_encode.specs.Calls as calls
use Rattle.tiff_encode.specs.Calls.{Offsets, offsets_of, links_to, chains, finish, write_tags, last_tags, finish_image, write_chunks, write_image_data, set_parent}
use Rattle.tiff_encode.specs.JobValues.{cut_to}
use Rattle.tiff_encode.specs.Jobs.{FileAndModel, Drawn, Run, FinishedImage, IsDone, Refuses, FinishesWith, FinishesSilently, DirectoryEnds, ImageEnds, EndsWithin, JobWritesDataBy, JobIsNotBegun, IsSet, DirectoryRan, DirectoryRanBy, ImageRan, JobRan, JobsRun, run_after_job, with_parent, named_parent, open_directory, offsets_in}
use Rattle.tiff_encode.specs.JobsBehind.{JobsGoOn, run_behind}
use Rattle.tiff_encode.specs.Running.{JobsMove}
use Rattle.tiff_encode.specs.Stepping.{IsSound}
use Rattle.tiff_base.specs.lemmas.Slices.{ok_inj, some_inj, none_some, length_put, length-le}
use Rattle.tiff_encode.specs.lemmas.FormerBytes.{begun, cut, torn, written}
use Rattle.tiff_encode.proofs.Leaving.{ok_err}
use Rattle.tiff_encode.proofs.Joining.{IsAdding}
use Rattle.tiff_encode.proofs.EndLinks.{chain_among}
use Rattle.tiff_encode.proofs.Open.Tags.{tags_adding}
use Rattle.tiff_encode.proofs.Data.Begun.{new_adding}
use Rattle.tiff_encode.proofs.Data.Calls.{AreAt, Patches, last_at}
use Rattle.tiff_encode.proofs.Data.Chunks.{finish_patches, image_patches, data_patches, chunks_adding}
use Rattle.tiff_encode.proofs.Running.All.{run_shows}
use Rattle.tiff_encode.proofs.Running.Kept.{IsSame, done_same, refused_same, steps_kept}
use Rattle.tiff_encode.proofs.Running.KeptImages.{image_steps_kept}
use Rattle.tiff_encode.proofs.Running.Steps.{in_last, no_offsets, answered_offset, silent_end, new_parent, chained_parent, extra_parent, named_in, open_adding, job_image}

-- ---- where a call that ends a directory puts its link

-- The link of the directory is behind the file before the call, and the last link of the chain is
-- that link, or it stays.
record EndPlace (told : WriteOutcome Offsets) (file : FileState) : Type 0 where
  pub own : (offsets : Offsets) → told.answer ≡ Ok offsets → length file.bytes ≤ offsets.link
  pub chain : (offsets : Offsets) → told.answer ≡ Ok offsets
      → (told.next.chain ≡ file.chain) ⊎ (told.next.chain ≡ offsets.link)
  pub refused : (e : TiffError) → told.answer ≡ Err e → told.next.chain ≡ file.chain

caused_place : (cause : Option TiffError) (call : WriteCall Offsets) (file : FileState)
    → EndPlace (call file) file → EndPlace (by_cause cause call file) file
caused_place None call file p = p
caused_place (Some e) call file p = record {
  own = λ offsets h. absurd (ok_err (sym h));
  chain = λ offsets h. absurd (ok_err (sym h));
  refused = λ f h. refl;
}

module _ {A : Type 0} (rest : A → WriteCall Offsets) (file : FileState) where
  joined_place : (r : Result A TiffError) (ops : List WriteOp) (next : FileState)
      → (let first : WriteOutcome A = record { answer = r; ops = ops; next = next } in IsAdding first file)
      → ((x : A) → r ≡ Ok x → EndPlace (rest x next) next)
      → EndPlace (and_then r ops next rest) file
  joined_place (Err e) ops next a p = record {
    own = λ offsets h. absurd (ok_err (sym h));
    chain = λ offsets h. absurd (ok_err (sym h));
    refused = λ f h. ap (λ s. s.chain) a.next;
  }
  joined_place (Ok x) ops next a p =
      let here = p x refl in
      let longer : length next.bytes ≡ length file.bytes + length (all_appended file.kind ops) =
      ap (λ s. length s.bytes) a.next ∙ length-append file.bytes (all_appended file.kind ops) in
      let same : next.chain ≡ file.chain = ap (λ s. s.chain) a.next in
      record {
        own = λ offsets h. let least = here.own offsets h in omega (arith, longer, least);
        chain =
            λ offsets h. elim (here.chain offsets h) as (λ _. ((rest x next).next.chain
            ≡ file.chain) ⊎ ((rest x next).next.chain ≡ offsets.link)) [
              | inl s ↦ inl (s ∙ same)
              | inr s ↦ inr s
            ];
        refused = λ e h. here.refused e h ∙ same;
      }

bind_place : {A : Type 0} (call : WriteCall A) (rest : A → WriteCall Offsets) (file : FileState)
    → IsAdding (call file) file
    → ((x : A) → (call file).answer ≡ Ok x → EndPlace (rest x (call file).next) (call file).next)
    → EndPlace ((call >>= rest) file) file
bind_place call rest file a p =
    joined_place rest file (call file).answer (call file).ops (call file).next a p

finish_place : (d : OpenDirectory) (file : FileState) → EndPlace (finish d file) file
unfolding finish
finish_place d file =
    let offset : Offsets = offsets_of file.kind (end_of file) (len d.fields) in
    let links : List WriteOp = links_to d.parent (end_of file) in
    let call : WriteCall Offsets =
    does (Listed d.fields ∷ links) >>= (λ _. chains d.chained offset) in
    let P : ℕ → Type 0 = λ q. (q ≡ file.chain) ⊎ (q ≡ offset.link) in
    let least : length file.bytes ≤ offset.link = omega arith in
    caused_place (finish_cause file d) call file (record {
      own = λ offsets h. subst (λ o. length file.bytes ≤ o.link) (ok_inj offset offsets h) least;
      chain = λ offsets h.
          subst (λ o. ((call file).next.chain ≡ file.chain)
          ⊎ ((call file).next.chain ≡ o.link)) (ok_inj offset offsets h)
          (chain_among d.chained (does (Listed d.fields
          ∷ links) file).next offset P (inr refl) (inl refl));
      refused = λ e h. absurd (ok_err h);
    })

image_place : (i : OpenImage) (file : FileState) → EndPlace (finish_image i file) file
unfolding finish_image
image_place i file =
    let values : List (Tag × Scalars) = last_tags file.kind i in
    let call : WriteCall OpenDirectory = write_tags i.directory values in
    bind_place call finish file (tags_adding i.directory values file) (λ d _. finish_place d (call file).next)

data_place : (i : OpenImage) (samples : List ℕ) (stored : List (List ℕ)) (file : FileState)
    → EndPlace (write_image_data i samples stored file) file
unfolding write_image_data
data_place i samples stored file =
    let parts : List (List ℕ) = parts_left i samples in
    let call : WriteCall OpenImage = write_chunks i parts stored in
    caused_place (write_image_data_cause file i _) (call >>= finish_image) file
    (bind_place call finish_image file (chunks_adding i parts stored file) (λ last _. image_place last (call file).next))

-- ---- a file behind a former file

module _ (kind : FileKind) (q : ℕ) (former : List ℕ) (room : q + offset_len kind ≤ length former) where
  -- the link at q, or one behind the former file
  abbrev IsOwn : ℕ → Type 0
  IsOwn p = (p ≡ q) ⊎ (length former ≤ p)

  abbrev AreOwn : Option ℕ → Type 0
  AreOwn parent = (p : ℕ) → parent ≡ Some p → IsOwn p

  -- the file continues the former file, and the last link of its chain is that at q or behind it
  record Behind (s : FileState) : Type 0 where
    pub kind_is : s.kind ≡ kind
    pub bytes : Continues kind q former s.bytes
    pub chain : IsOwn s.chain

  -- the file is at least as long as the former file
  longer : (s : FileState) → Behind s → length former ≤ length s.bytes
  longer s b =
      let c = b.bytes in
      let fit : q + length c.over ≤ length former = omega (arith, c.whole, room) in
      let len : length s.bytes ≡ length (put former q c.over) + length c.more =
      ap (λ xs. length xs) c.bytes ∙ length-append (put former q c.over) c.more in
      omega (arith, len, length_put former q c.over fit)

  same_behind : (old new : FileState) → IsSame old new → Behind old → Behind new
  same_behind old new same b = record {
    kind_is = same.kind ∙ b.kind_is;
    bytes =
        subst (λ xs. Continues kind q former xs) (sym same.bytes) (cut kind q former old.bytes same.more b.bytes);
    chain = subst IsOwn (sym same.chain) b.chain;
  }

  links_from : (parent : Option ℕ) → AreOwn parent → (ops : List WriteOp) → AreAt parent ops
      → LinksFrom q (length former) ops
  links_from parent own [] a = tt
  links_from parent own (Appended more ∷ ops) a = links_from parent own ops a
  links_from parent own (Supplied supplied ∷ ops) a = links_from parent own ops a
  links_from parent own (Listed fields ∷ ops) a = links_from parent own ops a
  links_from parent own (Linked offset target ∷ ops) a =
      (own offset a.0, links_from parent own ops a.1)

  -- ---- ends

  -- what an end leaves: a file behind the former file, and the link of its directory is behind it
  -- too
  record EndsBehind (t : FileState) (offset : Option Offsets) : Type 0 where
    pub file : Behind t
    pub own : (o : Offsets) → offset ≡ Some o → length former ≤ o.link

  none_behind : (t : FileState) (offset : Option Offsets) → offset ≡ None → Behind t
      → EndsBehind t offset
  none_behind t offset none b = record { file = b; own = λ o h. absurd (none_some (sym none ∙ h)) }

  -- an end that points only its parent's link
  module _ (parent : Option ℕ) (told : WriteOutcome Offsets) (s t : FileAndModel)
      (p : Patches parent told s.file) (place : EndPlace told s.file)
      (own : AreOwn parent) (b : Behind s.file) where
    -- the bytes of the file after all writes
    told_bytes : Continues kind q former told.next.bytes
    told_bytes =
        subst (λ xs. Continues kind q former xs) (sym p.done.bytes)
        (subst (λ k. Continues kind q former (bytes_after k s.file.bytes told.ops)) (sym b.kind_is)
        (written kind q former room s.file.bytes told.ops b.bytes (links_from parent own told.ops p.at)))

    told_behind : (chain : IsOwn told.next.chain) → t.file ≡ told.next → Behind t.file
    told_behind chain is = record {
      kind_is = ap (λ f. f.kind) is ∙ p.done.kind ∙ b.kind_is;
      bytes = subst (λ f. Continues kind q former f.bytes) (sym is) told_bytes;
      chain = subst (λ f. IsOwn f.chain) (sym is) chain;
    }

    -- the kind and the chain of the file stay
    still_behind : t.file.kind ≡ s.file.kind → t.file.chain ≡ s.file.chain
        → Continues kind q former t.file.bytes → Behind t.file
    still_behind same chain bytes =
        record { kind_is = same ∙ b.kind_is; bytes = bytes; chain = subst IsOwn (sym chain) b.chain }

    done_behind : (offsets : Offsets) → IsDone told (Ok offsets) s t
        → EndsBehind t.file (Some offsets)
    done_behind offsets d =
        let long = longer s.file b in
        let least : length former ≤ offsets.link =
        let l = place.own offsets d.ended.answer in omega (arith, long, l) in
        let chain : IsOwn told.next.chain =
        elim (place.chain offsets d.ended.answer) as (λ _. IsOwn told.next.chain) [
          | inl same ↦ subst IsOwn (sym same) b.chain
          | inr link ↦ inr (subst (λ n. length former ≤ n) (sym link) least)
        ] in
        record { file = told_behind chain d.ended.state; own = λ o h. subst (λ x. length former ≤ x.link) (some_inj offsets o h) least }

    cut_behind : (xs : List ℕ) → Continues kind q former (s.file.bytes ++ xs)
    cut_behind xs = cut kind q former s.file.bytes xs b.bytes

    refused_behind : (e : TiffError) → Refuses told e s t → Behind t.file
    refused_behind e h = elim h as (λ _. Behind t.file) [
      | inl r ↦ told_behind (subst IsOwn (sym (place.refused e r.1.answer)) b.chain) r.1.state
      | inr h ↦ elim h as (λ _. Behind t.file) [
        | inl x ↦ (let y = x.torn in
            let over : List ℕ = take y.count (le (offset_len s.file.kind) y.target) in
            let short : length over ≤ offset_len kind =
            (let l = length-le 0 (offset_len s.file.kind) y.target in
            let k = ap (λ (f : FileKind). offset_len f) b.kind_is in
            let w = y.within in
            omega (arith, w, k, length-take-le y.count (le (offset_len s.file.kind) y.target) (omega (arith, l, w)))) in
            let at : parent ≡ Some y.offset =
            last_at parent y.before y.offset y.target (subst (λ ops. AreAt parent ops) y.last p.at) in
            still_behind (ap (λ f. f.kind) y.state) (ap (λ f. f.chain) y.state)
            (subst (λ f. Continues kind q former f.bytes) (sym y.state)
            (torn kind q former room (s.file.bytes ++ all_appended s.file.kind y.before) over y.offset (cut_behind (all_appended s.file.kind y.before)) short (own y.offset at))))
        | inr h ↦ elim h as (λ _. Behind t.file) [
          | inl c ↦ still_behind (ap (λ f. f.kind) c.1.state) (ap (λ f. f.chain) c.1.state)
              (subst (λ f. Continues kind q former f.bytes) (sym c.1.state) (cut_behind (take c.1.count (all_appended s.file.kind told.ops))))
          | inr c ↦ still_behind (ap (λ f. f.kind) c.1.state) (ap (λ f. f.chain) c.1.state)
              (subst (λ f. Continues kind q former f.bytes) (sym c.1.state) (cut_behind (take c.1.count (all_appended s.file.kind told.ops))))
        ]
      ]
    ]

    with_behind : (r : Result EndReply TiffError) (offset : Option Offsets)
        → FinishesWith told r s t offset → EndsBehind t.file offset
    with_behind (Ok (last.Offsets pointer link)) offset h =
        subst (λ o. EndsBehind t.file o) (sym h.1) (done_behind (record { pointer = pointer; link = link }) h.0)
    with_behind (Ok last.Nothing) offset h = absurd h
    with_behind (Err e) offset h = none_behind t.file offset h.1 (refused_behind e h.0)

    silently_behind : (r : Result EndReply TiffError) (offset : Option Offsets)
        → FinishesSilently told r s t offset → EndsBehind t.file offset
    silently_behind (Ok last.Nothing) offset h =
        subst (λ o. EndsBehind t.file o) (sym h.1.1) (done_behind h.0 h.1.0)
    silently_behind (Ok (last.Offsets pointer link)) offset h = absurd h
    silently_behind (Err e) offset h = none_behind t.file offset h.1 (refused_behind e h.0)

  directory_behind : (s : FileAndModel) (d : OpenDirectory) (e : DirectoryEnd)
      (r : Result EndReply TiffError) (t : FileAndModel) (offset : Option Offsets)
      → AreOwn d.parent → Behind s.file → DirectoryEnds s d e r t offset → EndsBehind t.file offset
  directory_behind s d end.Finish r t offset own b h =
      with_behind d.parent (finish d s.file) s t (finish_patches d s.file)
      (finish_place d s.file) own b r offset h
  directory_behind s d end.Discard r t offset own b h =
      silently_behind d.parent (finish d s.file) s t (finish_patches d s.file)
      (finish_place d s.file) own b r offset h

  -- `write_data` that stops within its chunks
  within_behind : (i : OpenImage) (samples : List ℕ) (r : Result EndReply TiffError)
      (s t : FileAndModel) → Behind s.file → EndsWithin i samples r s t
      → Behind t.file
  within_behind i samples (Ok r) s t b h = absurd h
  within_behind i samples (Err e) s t b h =
      let stored : List (List ℕ) = h.0 in
      let told : WriteOutcome OpenImage = write_chunks i (parts_left i samples) stored s.file in
      let a : IsAdding told s.file = chunks_adding i (parts_left i samples) stored s.file in
      same_behind s.file t.file (elim h.1.1 as (λ _. IsSame s.file t.file) [
        | inl r ↦ refused_same told s t a e (inl r)
        | inr y ↦ elim y as (λ _. IsSame s.file t.file) [
          | inl c ↦ refused_same told s t a e (inr (inr (inl c)))
          | inr c ↦ refused_same told s t a e (inr (inr (inr c.1)))
        ]
      ]) b

  here_behind : (s t : FileAndModel) (offset : Option Offsets) → t ≡ s → offset ≡ None
      → Behind s.file → EndsBehind t.file offset
  here_behind s t offset is none b =
      none_behind t.file offset none (subst (λ (x : FileAndModel). Behind x.file) (sym is) b)

  data_behind : (cause : Option TiffError) (i : OpenImage) (samples : List ℕ)
      (r : Result EndReply TiffError) (s t : FileAndModel) (offset : Option Offsets)
      → AreOwn i.directory.parent → Behind s.file → JobWritesDataBy cause i samples r s t offset
      → EndsBehind t.file offset
  data_behind (Some cause) i samples r s t offset own b h = here_behind s t offset h.1.0 h.1.1 b
  data_behind None i samples r s t offset own b h = elim h as (λ _. EndsBehind t.file offset) [
    | inl w ↦ silently_behind i.directory.parent (write_image_data i samples w.0 s.file) s t
        (data_patches i samples w.0 s.file) (data_place i samples w.0 s.file) own b
        r offset w.1.1.1
    | inr w ↦ none_behind t.file offset w.1 (within_behind i samples r s t b w.0)
  ]

  image_behind : (s : FileAndModel) (i : OpenImage) (e : ImageEnd) (r : Result EndReply TiffError)
      (t : FileAndModel) (offset : Option Offsets)
      → AreOwn i.directory.parent → Behind s.file → ImageEnds s i e r t offset
      → EndsBehind t.file offset
  image_behind s i (iend.WriteData samples) r t offset own b h =
      let cut : List ℕ = cut_to i.size samples in
      elim h as (λ _. EndsBehind t.file offset) [
        | inl w ↦ data_behind (write_image_data_cause s.file i (length cut)) i cut r s t offset own b w
        | inr w ↦ here_behind s t offset w.1.0 w.1.1 b
      ]
  image_behind s i iend.Finish r t offset own b h =
      silently_behind i.directory.parent (finish_image i s.file) s t (image_patches i s.file)
      (image_place i s.file) own b r offset h
  image_behind s i iend.Discard r t offset own b h =
      silently_behind i.directory.parent (finish_image i s.file) s t (image_patches i s.file)
      (image_place i s.file) own b r offset h

  -- ---- jobs

  -- the file of a run is behind the former file, and so are the links that its jobs returned
  record RunBehind (run : Run) : Type 0 where
    pub file : Behind run.standing.file
    pub offsets : (o : Offsets) → In (Some o) run.offsets → length former ≤ o.link

  run_more : (run : Run) (t : FileAndModel) (r : Result EndReply TiffError)
      (images : List FinishedImage) (new : Run) → RunBehind run → Behind t.file
      → ((o : Offsets) → offsets_in r ≡ Some o → length former ≤ o.link)
      → new ≡ run_after_job run t r images → RunBehind new
  run_more run t r images new b f own is =
      subst RunBehind (sym is) (record {
        file = f;
        offsets =
            λ o i. elim (in_last (Some o) run.offsets (offsets_in r) i) as (λ _. length former
            ≤ o.link) [
              | inl j ↦ b.offsets o j
              | inr e ↦ own o (sym e)
            ];
      })

  not_begun : {A : Type 0} (told : WriteOutcome A) (old : Run) (r : JobReply) (new : Run)
      → IsAdding told old.standing.file → RunBehind old
      → JobIsNotBegun told old r new → RunBehind new
  not_begun told old r new a b h =
      let e : TiffError = h.0 in
      let s : FileAndModel = h.1.0 in
      run_more old s r.last [] new b (same_behind old.standing.file s.file (refused_same told old.standing s a e h.1.1.1.0) b.file)
      (λ o p. absurd (no_offsets r.last e o h.1.1.0.1 p)) h.1.1.1.1

  set_job : (set : FileState → FileState) (old : Run) (r : JobReply) (new : Run)
      → Behind (set old.standing.file) → RunBehind old → IsSet set old r new → RunBehind new
  set_job set old r new f b h =
      run_more old (record old.standing { file = set old.standing.file }) r.last [] new b f
      (λ o p. absurd (none_some (sym (ap offsets_in h.1.0) ∙ p))) h.1.1

  -- the parent of a directory that is begun
  opened_own : (chained : _) (file : FileState) (d : OpenDirectory) → IsOwn file.chain
      → (open_directory chained file).answer ≡ Ok d → AreOwn d.parent
  opened_own true file d own h p e =
      subst IsOwn (some_inj file.chain p (sym (chained_parent file d h) ∙ e)) own
  opened_own false file d own h p e = absurd (none_some (sym (extra_parent file d h) ∙ e))

  parent_own : (parent : Option Offsets) (d : OpenDirectory)
      → ((o : Offsets) → parent ≡ Some o → length former ≤ o.link) → AreOwn d.parent
      → AreOwn (with_parent parent d).parent
  unfolding set_parent
  parent_own None d named own p e = own p e
  parent_own (Some o) d named own p e =
      inr (subst (λ n. length former ≤ n) (some_inj o.link p e) (named o refl))

  directory_job : (parent : Option Offsets) (j : DirectoryJob) (r : JobReply) (old new : Run)
      → ((o : Offsets) → parent ≡ Some o → length former ≤ o.link)
      → RunBehind old → DirectoryRan old parent j r new → RunBehind new
  directory_job parent j r old new named b h = elim h as (λ _. RunBehind new) [
    | inl n ↦ not_begun (open_directory j.chained old.standing.file) old r new
        (open_adding j.chained old.standing.file) b n
    | inr x ↦
        (let file : FileState = old.standing.file in
        let same =
        done_same (open_directory j.chained file) old.standing x.after_begin
        (open_adding j.chained file) (Ok x.first) x.begins in
        let first : OpenDirectory = with_parent parent x.first in
        let kept =
        steps_kept x.after_begin first j.steps.items r.steps.items x.after_steps x.final x.steps in
        let own : AreOwn first.parent =
        parent_own parent x.first named (opened_own j.chained file x.first b.file.chain x.begins.ended.answer) in
        let own_last : AreOwn x.final.parent = λ p e. own p (sym kept.parent ∙ e) in
        let begun_file : Behind x.after_begin.file =
        same_behind file x.after_begin.file same b.file in
        let left : Behind x.after_steps.file =
        same_behind x.after_begin.file x.after_steps.file kept.file begun_file in
        let ended =
        directory_behind x.after_steps x.final j.end r.last x.after_end x.offset own_last left x.ends in
        run_more old x.after_end r.last [] new b ended.file (λ o p. ended.own o (answered_offset x.after_steps x.final j.end r.last x.after_end x.offset o x.ends p)) x.state)
  ]

  named_job : (named : Result (Option Offsets) TiffError) (j : DirectoryJob) (r : JobReply)
      (old new : Run) → named_parent old.offsets j.parent ≡ named
      → RunBehind old → DirectoryRanBy old named j r new → RunBehind new
  named_job (Ok parent) j r old new is b h =
      directory_job parent j r old new (λ o e. b.offsets o (named_in old.offsets j.parent o (is
      ∙ ap Ok e))) b h
  named_job (Err e) j r old new is b h =
      run_more old old.standing r.last [] new b b.file (λ o p. absurd (no_offsets r.last e o h.0.1 p)) h.1

  image_job : (j : ImageJob) (r : JobReply) (old new : Run) → RunBehind old → ImageRan old j r new
      → RunBehind new
  image_job j r old new b h =
      let file : FileState = old.standing.file in
      let a = new_adding (color_type j.color) (inner_size j.color) j.width j.height file in
      elim h as (λ _. RunBehind new) [
        | inl n ↦ not_begun (job_image j file) old r new a b n
        | inr x ↦
            (let same = done_same (job_image j file) old.standing x.after_begin a (Ok x.first) x.begins in
            let drawn : Drawn = record { image = x.first; samples = [] } in
            let kept =
            image_steps_kept x.after_begin drawn j.steps.items r.steps.items x.after_steps x.final x.steps in
            let parent =
            new_parent (color_type j.color) (inner_size j.color) j.width j.height file x.first x.begins.ended.answer in
            let own : AreOwn x.final.image.directory.parent =
            λ p e. subst IsOwn (some_inj file.chain p (sym parent ∙ sym kept.parent
            ∙ e)) b.file.chain in
            let left : Behind x.after_steps.file =
            same_behind x.after_begin.file x.after_steps.file kept.file (same_behind file x.after_begin.file same b.file) in
            let ended =
            image_behind x.after_steps x.final.image j.end r.last x.after_end x.offset own left x.ends in
            run_more old x.after_end r.last _ new b ended.file
            (λ o p. absurd (none_some (sym (silent_end x.after_steps x.final.image j.end r.last x.after_end x.offset x.ends) ∙ p))) x.state)
      ]

  job_behind : (j : Job) (r : JobReply) (old new : Run) → RunBehind old → JobRan old j r new
      → RunBehind new
  job_behind (job.Predictor p) r old new b h =
      set_job (calls.with_predictor p) old r new (record { kind_is = b.file.kind_is; bytes = b.file.bytes; chain = b.file.chain }) b h
  job_behind (job.Compression c) r old new b h =
      set_job (calls.with_compression c) old r new (record { kind_is = b.file.kind_is; bytes = b.file.bytes; chain = b.file.chain }) b h
  job_behind (job.Directory j) r old new b h =
      named_job (named_parent old.offsets j.parent) j r old new refl b h
  job_behind (job.Image j) r old new b h = image_job j r old new b h

  jobs_behind : (jobs : List Job) (replies : List JobReply) (old new : Run) → RunBehind old
      → JobsRun old jobs replies new → RunBehind new
  jobs_behind [] [] old new b h = subst RunBehind (sym h) b
  jobs_behind [] (r ∷ rs) old new b h = absurd h
  jobs_behind (j ∷ js) [] old new b h = absurd h
  jobs_behind (j ∷ js) (r ∷ rs) old new b h =
      jobs_behind js rs h.0 new (job_behind j r old h.0 b h.1.0) h.1.1

-- ---- the law

-- a run that begins behind a file
run_begun : (kind : FileKind) (contents : List ℕ) (failures q : ℕ) (former : Model)
    (room : q + offset_len kind ≤ length contents)
    → RunBehind kind q contents room (run_behind (continued_file kind contents failures q) former)
run_begun kind contents failures q former room = record {
  file = record { kind_is = refl; bytes = begun kind q contents room; chain = inl refl };
  offsets = λ o i. absurd i;
}

-- jobs that are run behind any file keep its bytes, except those of the link
pub jobs_continue : (kind : FileKind) (contents : List ℕ) (failures q : ℕ) (jobs : List Job)
    (earlier all : List JobReply) (new : FileState)
    → q + offset_len kind ≤ length contents
    → JobsMove jobs earlier all (continued_file kind contents failures q) new
    → Continues kind q contents new.bytes
jobs_continue kind contents failures q jobs earlier all new room moves =
    let run : Run = run_behind (continued_file kind contents failures q) (header_model kind) in
    let sound : IsSound false run = record {
      stands = λ k. absurd (cc);
      chain = λ k offset p. absurd (cc);
      offsets = λ o i. absurd i;
      images = λ f i. absurd i;
    } in
    let x = moves.1.1 false run refl refl sound in
    let left =
    jobs_behind kind q contents room jobs moves.0 run x.0 (run_begun kind contents failures q (header_model kind) room) x.1.1.0 in
    subst (λ f. Continues kind q contents f.bytes) x.1.0 left.file.bytes

pub jobs_go_on : JobsGoOn
jobs_go_on kind told failures q former jobs earlier all new room goes moves =
    let file : FileState = continued_file kind told failures q in
    let run : Run = run_behind file former in
    let sound : IsSound true run = record {
      stands = λ k. goes.stands;
      chain = λ k offset p. subst (λ n. IsLink kind former n) (some_inj q offset p) goes.link;
      offsets = λ o i. absurd i;
      images = λ f i. absurd i;
    } in
    let x = moves.1.1 true run refl refl sound in
    let left =
    jobs_behind kind q told room jobs moves.0 run x.0 (run_begun kind told failures q former room) x.1.1.0 in (
      moves.0,
      (
        moves.1.0,
        record {
          run = x.0;
          run_is = x.1.1.0;
          file_is = x.1.0;
          continues = subst (λ f. Continues kind q told f.bytes) x.1.0 left.file.bytes;
          stands = x.1.1.1.0.stands refl;
          shows = run_shows x.0 x.1.1.1.0;
        },
      ),
    )
