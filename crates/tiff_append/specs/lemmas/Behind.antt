-- A file with a new link and more bytes behind it.
use Rattle.std.proofs.Common.{◌≡◌, inl, inr, ℕ, ◌+◌, ◌-◌, ◌≤◌, List, [], ◌++◌, length, take, drop, Ok, ap, sym, ◌∙◌, subst, arith, append-nil, append_assoc, length-append, length-drop}
use Rattle.std.proofs.lemmas.List.{drop-drop, drop_at, take_all, take-append-drop, length-take-le}
use Rattle.tiff_base.specs.declared.error.TiffError.{TiffError}
use Rattle.tiff_base.specs.declared.error.TiffError.TheVariants.{OutOfMemory}
use Rattle.tiff_base.specs.declared.tags.FileKind.{FileKind}
use Rattle.tiff_base.specs.SourceAndSink.{Overwrites, exactly_at, put}
use Rattle.tiff_encode.specs.declared.encoder.script.Job.{Job}
use Rattle.tiff_encode.specs.declared.encoder.script.JobReply.{JobReply}
use Rattle.tiff_encode.specs.Appending.{Continues}
use Rattle.tiff_value.specs.FileBytes.{offset_len}
use Rattle.tiff_encode.specs.lemmas.FormerBytes.{put_past, put_over}
use Rattle.tiff_encode.proofs.Running.Behind.{jobs_continue}
use Rattle.tiff_base.specs.lemmas.Slices.{exact_append, exact_put_here, length_put, ok_inj}
use Rattle.tiff_append.specs.declared.sink.Addition.{Addition}
use Rattle.tiff_append.specs.Behind.{IsAddedTo, RefusesLink, RunsAt, RunsBehind, added_to}

-- the length of such a file
pub length_added : (file : List ℕ) (q : ℕ) (link more : List ℕ) → q + length link ≤ length file
    → length (added_to file q link more) ≡ length file + length more
length_added file q link more fit =
    let l = length_put file q link fit in omega (arith, l, length-append (put file q link) more)

-- a link that has its former bytes
pub first_added : (file : List ℕ) (q n : ℕ) (link : List ℕ) → q + n ≤ length file
    → link ≡ take n (drop q file) → added_to file q link [] ≡ file
first_added file q n link fit is =
    let w : length link ≡ n =
    ap (λ l. length l) is ∙ length-take-le n (drop q file) (omega (arith, length-drop q file, fit)) in
    let rest : drop (q + length link) file ≡ drop n (drop q file) =
    ap (λ m. drop (q + m) file) w ∙ sym (drop-drop n q file) in
    append-nil (put file q link)
    ∙ (λ i. take q file ++ (is i ++ rest i))
    ∙ ap (λ l. take q file ++ l) (take-append-drop n (drop q file))
    ∙ take-append-drop q file

-- bytes that are written behind the file
past_added : (file : List ℕ) (q : ℕ) (link more : List ℕ) (at : ℕ) (xs : List ℕ)
    → q + length link ≤ length file → length file ≤ at
    → put (added_to file q link more) at xs ≡ added_to file q link (put more (at - length file) xs)
past_added file q link more at xs fit behind =
    let front : List ℕ = put file q link in
    let size : length front ≡ length file = length_put file q link fit in
    let sum : at ≡ length front + (at - length file) = omega (arith, size, behind) in
    ap (λ n. put (front ++ more) n xs) sum ∙ put_past front more (at - length file) xs

-- a write that takes all of its bytes
all_written : (old : List ℕ) (at : ℕ) (xs new : List ℕ) → new ≡ put old at xs
    → Overwrites old at xs (length xs) new
all_written old at xs new is = record {
  in_bytes = omega arith;
  some = λ l. l;
  next = is ∙ ap (put old at) (sym (take_all (length xs) xs (omega arith)));
}

pub past_written : (file : List ℕ) (q : ℕ) (link more : List ℕ) (at : ℕ) (xs left : List ℕ)
    → q + length link ≤ length file → length file ≤ at
    → left ≡ put more (at - length file) xs
    → Overwrites (added_to file q link more) at xs (length xs) (added_to file q link left)
past_written file q link more at xs left fit behind is =
    all_written (added_to file q link more) at xs (added_to file q link left)
    (ap (added_to file q link) is ∙ sym (past_added file q link more at xs fit behind))

-- bytes that are written at the front of the link
pub over_written : (file : List ℕ) (q : ℕ) (link more : List ℕ) (at : ℕ) (xs left : List ℕ)
    → q + length link ≤ length file → at ≡ q → length xs ≤ length link
    → left ≡ put link 0 xs → Overwrites (added_to file q link more) at xs (length xs)
    (added_to file q left more)
over_written file q link more at xs left fit here short is =
    let zero_more : 0 + length xs ≡ length xs = omega arith in
    let first : left ≡ xs ++ drop (length xs) link = is ∙ ap (λ n. xs ++ drop n link) zero_more in
    let told : added_to file q left more ≡ put (added_to file q link more) q xs =
    ap (λ l. added_to file q l more) first ∙ sym (put_over file q link more xs fit short) in
    all_written (added_to file q link more) at xs (added_to file q left more) (told
    ∙ ap (λ n. put (added_to file q link more) n xs) (sym here))

-- a file that has such a form for two files of one length, has the link and the bytes behind of the
-- second
same_added : (q : ℕ) (file other over link more mine bytes : List ℕ) → q + length over ≤ length file
    → length other ≡ length file → length link ≡ length over
    → bytes ≡ added_to file q over more → bytes ≡ added_to other q link mine
    → bytes ≡ added_to file q link mine
same_added q file other over link more mine bytes fit as_long as_wide here there =
    let room : q + length link ≤ length other = omega (arith, fit, as_long, as_wide) in
    let a : exactly_at bytes q (length over) ≡ Ok over =
    subst (λ (b : List ℕ). exactly_at b q (length over) ≡ Ok over) (sym here)
    (exact_append (put file q over) more q (length over) over (exact_put_here file q over fit)) in
    let b : exactly_at bytes q (length link) ≡ Ok link =
    subst (λ (b : List ℕ). exactly_at b q (length link) ≡ Ok link) (sym there)
    (exact_append (put other q link) mine q (length link) link (exact_put_here other q link room)) in
    let same : over ≡ link = ok_inj over link (sym a ∙ ap (exactly_at bytes q) (sym as_wide) ∙ b) in
    let m : drop (length file) bytes ≡ more =
    ap (drop (length file)) here ∙ drop_at (put file q over) more (length file)
    (length_put file q over fit) in
    let n : drop (length file) bytes ≡ mine =
    ap (drop (length file)) there
    ∙ drop_at (put other q link) mine (length file) (length_put other q link room ∙ as_long) in
    let behind : more ≡ mine = sym m ∙ n in
    here ∙ (λ i. added_to file q (same i) (behind i))

-- a file that continues a former one, and a file of its length with a new link and more bytes
-- behind it: these are the former file's
pub gathered : (kind : FileKind) (q : ℕ) (file contents : List ℕ) (a : Addition)
    → q + offset_len kind ≤ length file → Continues kind q file contents
    → IsAddedTo contents (length file) q (offset_len kind) a
    → (contents ≡ added_to file q a.link.items a.more.items)
    × (length a.link.items ≡ offset_len kind)
gathered kind q file contents a room c added =
    let fit : q + length c.over ≤ length file = omega (arith, c.whole, room) in (
      same_added q file added.file c.over a.link.items c.more a.more.items contents fit added.len_is
          (added.size_is ∙ sym c.whole) c.bytes added.whole,
      added.size_is,
    )

-- A file that goes on at a link behind a former file's bytes continues the former file too.
pub goes_on : (kind : FileKind) (q slot : ℕ) (file contents left : List ℕ)
    → q + offset_len kind ≤ length file → length file ≤ slot → Continues kind q file contents
    → Continues kind slot contents left → Continues kind q file left
goes_on kind q slot file contents left room behind c d =
    let fit : q + length c.over ≤ length file = omega (arith, c.whole, room) in
    record {
      over = c.over;
      whole = c.whole;
      more = put c.more (slot - length file) d.over ++ d.more;
      bytes =
          d.bytes
          ∙ ap (λ l. put l slot d.over ++ d.more) c.bytes
          ∙ ap (λ l. l ++ d.more) (past_added file q c.over c.more slot d.over fit behind)
          ∙ append_assoc (put file q c.over) (put c.more (slot - length file) d.over) d.more;
    }

-- what jobs leave continues the bytes that they go on behind
pub continues : (kind : FileKind) (contents : List ℕ) (q : ℕ) (jobs : List Job)
    (earlier all : List JobReply) (left : List ℕ) → RunsAt kind contents q jobs earlier all left
    → Continues kind q contents left
continues kind contents q jobs earlier all left r =
    subst (Continues kind q contents) (sym r.left_is) (jobs_continue kind contents r.failures q jobs earlier all r.last r.within r.moves)

-- what jobs leave behind a file, of the bytes of the sink
pub ran_behind : (kind : FileKind) (file contents : List ℕ) (q : ℕ) (jobs : List Job)
    (earlier all : List JobReply) (left : List ℕ) (a : Addition) → contents ≡ file
    → RunsAt kind contents q jobs earlier all left
    → IsAddedTo left (length file) q (offset_len kind) a
    → RunsBehind kind file q jobs earlier all a.link.items a.more.items
ran_behind kind file contents q jobs earlier all left a same runs added =
    let Runs : List ℕ → Type 0 = λ b. RunsAt kind b q jobs earlier all left in
    let here : RunsAt kind file q jobs earlier all left = subst Runs same runs in
    let g =
    gathered kind q file left a here.within (continues kind file q jobs earlier all left here) added in
    record { runs = subst (RunsAt kind file q jobs earlier all) g.0 here; width = g.1 }

-- The only error of a link that is within the file is that of memory.
pub out_of_memory : (len q size : ℕ) (e : TiffError) → q + size ≤ len → RefusesLink len q size e
    → e ≡ OutOfMemory
out_of_memory len q size e here (inl refused) = absurd (omega (arith, here, refused.0))
out_of_memory len q size e here (inr refused) = refused.1
