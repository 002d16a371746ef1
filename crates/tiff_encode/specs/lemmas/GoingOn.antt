-- A file that an encoder goes on behind contains the model of itself.
use Rattle.std.proofs.Common.{◌≡◌, ℕ, ◌+◌, ◌-◌, ◌<◌, ◌≤◌, ◌⊎◌, List, length, take, drop, Result, Ok, refl, ap, sym, ◌∙◌, inl, inr, subst, arith, lit<, length-drop}
use Rattle.std.proofs.lemmas.List.{length-take-le}
use Rattle.std.proofs.lemmas.Bool.{eq-eqb, ne_eqb}
use Rattle.std.specs.Int.{Width, byte_len}
use Rattle.std.specs.FinMap.{len}
use Rattle.tiff_base.specs.lemmas.Common.{bind_ok}
use Rattle.tiff_base.specs.declared.error.TiffError.{TiffError}
use Rattle.tiff_base.specs.declared.tags.FileKind.{FileKind}
use Rattle.tiff_base.specs.declared.tags.FileKind.TheVariants.{Classic, Big}
use Rattle.tiff_base.specs.declared.tags.ByteOrder.TheVariants.{LittleEndian}
use Rattle.tiff_base.specs.SourceAndSink.{bytes_at, exactly_at, put}
use Rattle.tiff_base.specs.Number.{number, number_at}
use Rattle.tiff_base.specs.Field.{DirectoryRecord}
use Rattle.tiff_base.specs.Directory.{count_width, offset_width, link, directory_at}
use Rattle.tiff_value.specs.Written.{Written, new_writer}
use Rattle.tiff_value.specs.FileBytes.{offset_len}
use Rattle.tiff_value.specs.Model.{In, FinishedDirectory, ByteRegion, BytesAreApart, header_link, own_link, IsLink, IsClear, body_len, whole_len}
use Rattle.tiff_encode.specs.Appending.{header_end, EndsInHeader, EndsIn, bytes_between, header_file_model, former_model, GoesOnBehind, Continues}
use Rattle.tiff_base.specs.lemmas.Slices.{exact, is_exact, exact_append, exact_put_before, exact_put_behind}
use Rattle.tiff_value.specs.lemmas.File.Kept.{directory_parts}

pub some_offset : (kind : FileKind) → 0 < offset_len kind
some_offset Classic = lit< tt
some_offset Big = lit< tt

-- a number that is read is within the file
pub number_within : (file : List ℕ) (w : Width) (p x : ℕ) → 0 < byte_len w
    → number_at LittleEndian w file p ≡ Ok x
    → p + byte_len w ≤ length file
number_within file w p x some e =
    let F : List ℕ → Result ℕ TiffError = λ s. Ok (number LittleEndian w s) in
    let i = bind_ok (exactly_at file p (byte_len w)) F x e in
    let o = (is_exact file p (byte_len w) i.0 i.1.0).0 in
    omega (arith, o, some)

-- bytes between two offsets end at the second
ends_at : (file : List ℕ) (from to : ℕ) → from ≤ to → to ≤ length file
    → from + length (bytes_between file from to).bytes ≡ to
ends_at file from to l u =
    let t : length (take (to - from) (drop from file)) ≡ to - from =
    length-take-le (to - from) (drop from file) (omega (arith, length-drop from file, l, u)) in
    omega (arith, t, l)

-- bytes between two offsets are read there
reads_between : (file : List ℕ) (from to : ℕ) → from ≤ to → to ≤ length file
    → let r : ByteRegion =
    bytes_between file from to in exactly_at file r.offset (length r.bytes) ≡ Ok r.bytes
reads_between file from to l u =
    let e = ends_at file from to l u in
    let s : length (bytes_at file from (to - from)) ≡ to - from = omega (arith, e, l) in
    exact file from (length (bytes_at file from (to - from))) (bytes_at file from (to - from))
    (omega (arith, s, l, u))
    (ap (λ n. take n (drop from file)) s)

-- a file without a directory contains the model of its header and the bytes behind it
behind_header : (kind : FileKind) (file : List ℕ) (chain : ℕ) → EndsInHeader kind file
    → chain ≡ header_link kind
    → GoesOnBehind kind file chain (header_file_model kind file)
behind_header kind file chain h e =
    let room =
    number_within file (offset_width kind) (header_link kind) 0 (some_offset kind) h.link in
    let r : ByteRegion = bytes_between file (header_end kind) (length file) in
    let m = header_file_model kind file in
    let only : (q : ℕ) → IsLink kind m q → q ≡ header_link kind =
    λ q l. elim l [ inl s ↦ s | inr y ↦ absurd y.1.0 ] in
    let one : (s : ByteRegion) → In s m.regions → s ≡ r =
    λ s i. elim i [ inl x ↦ x | inr y ↦ absurd y ] in
    let Reads : ByteRegion → Type 0 = λ s. exactly_at file s.offset (length s.bytes) ≡ Ok s.bytes in
    let Ends : ByteRegion → Type 0 = λ s. s.offset + length s.bytes ≤ length file in
    let Behind : ByteRegion → Type 0 = λ s. header_end kind ≤ s.offset in
    record {
      stands = record {
        header = h.mark;
        first = h.link;
        directories = λ d i. absurd i;
        counts = λ d i. absurd i;
        supplied = λ s i. absurd i;
        regions =
            λ s i. subst Reads (sym (one s i)) (reads_between file (header_end kind) (length file) room (omega arith));
        within =
            λ s i. subst Ends (sym (one s i)) (let z =
            ends_at file (header_end kind) (length file) room (omega arith) in omega (arith, z));
        disjoint = λ s t i j. inl (one s i ∙ sym (one t j));
        directories_within = λ d i. absurd i;
        directories_apart = λ d f i j. absurd i;
        regions_apart = λ d s i j. absurd i;
        apart = λ q l.
            let s = only q l in
            record {
              header = omega (arith, s);
              within = omega (arith, s, room);
              directories = λ d i. absurd i;
              supplied = λ d i. absurd i;
              regions = λ t i.
                  let b : header_end kind ≤ t.offset = subst Behind (sym (one t i)) (omega arith) in
                  inr (omega (arith, s, b));
              links = λ p j. inl (only p j ∙ sym s);
            };
      };
      link = inl e;
      last = refl;
    }

-- a file whose last link is that of a directory contains the model of this directory, and of all
-- bytes between the header and the directory and behind it
behind_directory : (kind : FileKind) (file : List ℕ) (first : ℕ) (d : FinishedDirectory) (chain : ℕ)
    → EndsIn kind file first d
    → chain ≡ own_link kind d → GoesOnBehind kind file chain (former_model kind file first d)
behind_directory kind file first d chain h e =
    let m = former_model kind file first d in
    let q : ℕ = own_link kind d in
    let k : ℕ = offset_len kind in
    let next : number_at LittleEndian (offset_width kind) file q ≡ Ok 0 =
    (directory_parts kind file d.offset (len d.fields) d.fields 0 h.count h.last).1 in
    let room : q + k ≤ length file =
    number_within file (offset_width kind) q 0 (some_offset kind) next in
    let behind : header_end kind ≤ d.offset = h.behind in
    let start : ℕ = header_end kind in
    let stop : ℕ = d.offset + whole_len kind d in
    let whole : stop ≡ q + k = omega arith in
    let a : ByteRegion = bytes_between file start d.offset in
    let b : ByteRegion = bytes_between file stop (length file) in
    let a_ends = ends_at file start d.offset behind (omega (arith, room)) in
    let b_ends = ends_at file stop (length file) (omega (arith, room)) (omega arith) in
    let differ : header_link kind ≡ q → ⊥ = λ s. omega (arith, s, behind, some_offset kind) in
    let each : (s : ByteRegion) → In s m.regions → (P : ByteRegion → Type 0) → P a → P b → P s =
    λ s i P x y. elim i [ inl u ↦ subst P (sym u) x | inr v ↦ elim v [ inl w ↦ subst P (sym w) y | inr z ↦ absurd z ] ] in
    let only : (f : FinishedDirectory) → In f m.directories → f ≡ d =
    λ f i. elim i [ inl x ↦ x | inr y ↦ absurd y ] in
    let is : (p : ℕ) → IsLink kind m p → (p ≡ header_link kind) ⊎ (p ≡ q) =
    λ p l. elim l [ inl s ↦ inl s | inr y ↦ inr (y.1.1 ∙ ap (own_link kind) (only y.0 y.1.0)) ] in
    let target : m.links q ≡ 0 = rw (ne_eqb q (header_link kind) (λ s. differ (sym s))) refl in
    let Whole : FinishedDirectory → Type 0 =
    λ f. BytesAreApart f.offset (whole_len kind f) a.offset (length a.bytes)
    × BytesAreApart f.offset (whole_len kind f) b.offset (length b.bytes) in
    record {
      stands = record {
        header = h.header.mark;
        first = rw (eq-eqb (header_link kind) (header_link kind) refl) h.header.link;
        directories = λ f i.
            let P : FinishedDirectory → Type 0 =
            λ f. directory_at kind LittleEndian file f.offset
            ≡ Ok (record { entries = f.fields; next = link (m.links (own_link kind f)) }) in
            subst P (sym (only f i)) (h.last ∙ ap (λ n. let r : Result DirectoryRecord TiffError =
            Ok (record { entries = d.fields; next = link n }) in r) (sym target));
        counts = λ f i.
            let P : FinishedDirectory → Type 0 =
            λ f. number_at LittleEndian (count_width kind) file f.offset ≡ Ok (len f.fields) in
            subst P (sym (only f i)) h.count;
        supplied = λ s i. absurd i;
        regions = λ s i. each s i (λ s. exactly_at file s.offset (length s.bytes) ≡ Ok s.bytes)
            (reads_between file start d.offset behind (omega (arith, room)))
            (reads_between file stop (length file) (omega (arith, room)) (omega arith));
        within =
            λ s i. each s i (λ s. s.offset + length s.bytes
            ≤ length file) (omega (arith, a_ends, room)) (omega (arith, b_ends));
        disjoint =
            λ s t i j. each s i (λ s. (s ≡ t) ⊎ BytesAreApart s.offset (length s.bytes) t.offset (length t.bytes))
            (each t j (λ t. (a ≡ t) ⊎ BytesAreApart a.offset (length a.bytes) t.offset (length t.bytes)) (inl refl) (inr (inl (omega (arith, a_ends)))))
            (each t j (λ t. (b ≡ t) ⊎ BytesAreApart b.offset (length b.bytes) t.offset (length t.bytes)) (inr (inr (omega (arith, a_ends)))) (inl refl));
        directories_within = λ f i.
            let P : FinishedDirectory → Type 0 = λ f. f.offset + whole_len kind f ≤ length file in
            subst P (sym (only f i)) (omega (arith, room));
        directories_apart = λ f g i j. inl (only f i ∙ sym (only g j));
        regions_apart = λ f s i j.
            let w : Whole f =
            subst Whole (sym (only f i)) (inr (omega (arith, a_ends)), inl (omega arith)) in
            each s j (λ s. BytesAreApart f.offset (whole_len kind f) s.offset (length s.bytes)) w.0 w.1;
        apart = λ p l. elim (is p l) [
          | inl s ↦ record {
            header = omega (arith, s);
            within = omega (arith, s, room, behind);
            directories = λ f i.
                let P : FinishedDirectory → Type 0 =
                λ f. IsClear kind p f.offset (body_len kind f) in
                subst P (sym (only f i)) (inr (omega (arith, s, behind)));
            supplied = λ s i. absurd i;
            regions =
                λ t i. each t i (λ t. IsClear kind p t.offset (length t.bytes))
                (inr (omega (arith, s))) (inr (omega (arith, s, behind)));
            links =
                λ o j. elim (is o j) [ inl u ↦ inl (u ∙ sym s) | inr u ↦ inr (inr (omega (arith, s, u, behind))) ];
          }
          | inr s ↦ record {
            header = omega (arith, s, behind);
            within = omega (arith, s, room);
            directories = λ f i.
                let P : FinishedDirectory → Type 0 =
                λ f. IsClear kind p f.offset (body_len kind f) in
                subst P (sym (only f i)) (inl (omega (arith, s)));
            supplied = λ s i. absurd i;
            regions =
                λ t i. each t i (λ t. IsClear kind p t.offset (length t.bytes))
                (inl (omega (arith, s, a_ends))) (inr (omega (arith, s, whole)));
            links =
                λ o j. elim (is o j) [ inl u ↦ inr (inl (omega (arith, s, u, behind))) | inr u ↦ inl (u ∙ sym s) ];
          }
        ];
      };
      link = inr (d, (inl refl, e));
      last = ap m.links e ∙ target;
    }

-- a new writer goes on behind the bytes of its sink
pub writer_behind_header : (kind : FileKind) (contents : List ℕ) (failures chain : ℕ) (w : Written)
    → w ≡ new_writer contents failures
    → EndsInHeader kind contents → chain ≡ header_link kind
    → GoesOnBehind kind w.bytes chain (header_file_model kind contents)
writer_behind_header kind contents failures chain w s h e =
    let P : Written → Type 0 =
    λ v. GoesOnBehind kind v.bytes chain (header_file_model kind contents) in
    subst P (sym s) (behind_header kind contents chain h e)

pub writer_behind_directory : (kind : FileKind) (contents : List ℕ) (failures chain : ℕ)
    (w : Written) → w ≡ new_writer contents failures
    → (first : ℕ) (d : FinishedDirectory) → EndsIn kind contents first d → chain ≡ own_link kind d
    → GoesOnBehind kind w.bytes chain (former_model kind contents first d)
writer_behind_directory kind contents failures chain w s first d h e =
    let P : Written → Type 0 =
    λ v. GoesOnBehind kind v.bytes chain (former_model kind contents first d) in
    subst P (sym s) (behind_directory kind contents first d chain h e)

-- ---- the bytes of the former file

-- bytes apart from the link stay
pub bytes_stay : (kind : FileKind) (q : ℕ) (file new : List ℕ) → q + offset_len kind ≤ length file
    → Continues kind q file new
    → (p n : ℕ) (s : List ℕ) → IsClear kind q p n → exactly_at file p n ≡ Ok s
    → exactly_at new p n ≡ Ok s
bytes_stay kind q file new room c p n s a e =
    let fit : q + length c.over ≤ length file = omega (arith, c.whole, room) in
    let P : List ℕ → Type 0 = λ f. exactly_at f p n ≡ Ok s in
    subst P (sym c.bytes) (exact_append (put file q c.over) c.more p n s (elim a as (λ _. exactly_at (put file q c.over) p n ≡ Ok s) [
      | inl b ↦ exact_put_before file q c.over p n s fit b e
      | inr b ↦ exact_put_behind file q c.over p n s fit (omega (arith, c.whole, b)) e
    ]))
