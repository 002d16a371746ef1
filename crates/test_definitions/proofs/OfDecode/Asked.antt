-- The worked examples of `Decode.Asked` hold.
use Rattle.std.specs.Prelude.{drop, get_or, length, reverse}
use Rattle.std.specs.List.{last_or}
use Rattle.std.proofs.Common.{◌≡◌, ℕ, ◌≤◌, List, [], ◌∷◌, Option, Some, None, Result, Ok, Err, refl, ap, sym, ◌∙◌, subst, arith}
use Rattle.std.proofs.lemmas.Bool.{false≢true}
use Rattle.std.proofs.lemmas.Option.{none-some}
use Rattle.tiff_base.specs.declared.error.TiffError.{TiffError}
use Rattle.tiff_base.specs.declared.error.TiffError.TheVariants.{FormatError}
use Rattle.tiff_base.specs.declared.error.TiffFormatError.TheVariants.{CycleInOffsets}
use Rattle.tiff_base.specs.declared.tags.ByteOrder.TheVariants.{LittleEndian}
use Rattle.tiff_base.specs.declared.tags.FileKind.TheVariants.{Classic}
use Rattle.tiff_base.specs.declared.tags.Tag.TheVariants as tag
use Rattle.tiff_base.specs.declared.tags.«Type».TheVariants.{LONG}
use Rattle.tiff_base.specs.Directory.{directory_at}
use Rattle.tiff_base.specs.Field.{DirectoryRecord, Field}
use Rattle.tiff_base.specs.Header.{Header}
use Rattle.tiff_base.specs.SourceAndSink.{SourceRecord}
use Rattle.tiff_ifd.specs.Chain.{IsChain, link_from}
use Rattle.tiff_ifd.specs.Stretches.{DirectoryReadable, LinkReadable}
use Rattle.tiff_ifd.specs.IfdChainWalk.{ChainBegins, Walked, link_behind}
use Rattle.tiff_page.specs.Reach.{PageReadable}
use Rattle.tiff_decode.specs.Asked.{EntryReadable}
use Rattle.test_definitions.specs.Base.FieldBytes.{of}
use Rattle.test_definitions.specs.Decoders.{gray_fields, two_file}
use Rattle.test_definitions.specs.Files.{gray_entries, gray_file, one_rational}
use Rattle.test_definitions.specs.Decode.Asked as s
use Rattle.test_definitions.proofs.OfIfd.Stretches.{count_in}
use Rattle.test_definitions.proofs.OfIfd.IfdChainWalk.{ends_there, goes_on, offset_of}
use Rattle.test_definitions.proofs.Stretches.{in_first, in_later}
use Rattle.test_definitions.proofs.TagsHeld.{page_held, tag_held, tag_unheld}
use Rattle.tiff.proofs.OnLiterals.{tiff_on_literals}

abbrev header_in : Result Header TiffError → Header
header_in (Ok header) = header
header_in (Err e) = record { order = LittleEndian; kind = Classic; first = 0 }

abbrev directory_in : Result DirectoryRecord TiffError → DirectoryRecord
directory_in (Ok directory) = directory
directory_in (Err e) = gray_fields

-- ---- opening

-- the checks of the page of one gray pixel read nothing outside the directory
gray_page : (source : SourceRecord) → PageReadable source Classic LittleEndian gray_fields
gray_page source =
    page_held source (reverse gray_entries) None (record { placed = λ w. absurd (omega (arith, w)) }) refl

gray_entry : (stretches : List (ℕ × ℕ))
    → DirectoryReadable (s.gray_source stretches) Classic LittleEndian 25
    → EntryReadable (s.gray_source stretches) Classic LittleEndian 25
unfolding tiff_on_literals
gray_entry stretches d = record {
  directory = d;
  page = λ directory e.
      subst (λ (x : DirectoryRecord). PageReadable (s.gray_source stretches) Classic LittleEndian x)
      (ap directory_in e) (gray_page (s.gray_source stretches));
}

-- the directory of the file of one gray pixel has 174 bytes
gray_directory : DirectoryReadable (s.gray_source ((0, 8) ∷ (25, 174) ∷ [])) Classic LittleEndian 25
unfolding tiff_on_literals
gray_directory = record {
  count = λ k l h. in_later (0, 8) ((25, 174) ∷ []) k (in_first 25 174 [] k l (omega (arith, h)));
  entries = λ n e k l h.
      let many : 14 ≡ n = ap count_in e in
      in_later (0, 8) ((25, 174) ∷ []) k (in_first 25 174 [] k (omega (arith, l)) (omega (arith, h, many)));
}

pub opens : s.opens
unfolding tiff_on_literals
opens = record {
  header = λ k l h. in_first 0 8 ((25, 174) ∷ []) k l h;
  first = λ header e.
      subst (λ (x : Header). EntryReadable (s.gray_source ((0, 8) ∷ (25, 174)
      ∷ [])) x.kind x.order x.first) (ap header_in e)
      (gray_entry ((0, 8) ∷ (25, 174) ∷ []) gray_directory);
}

pub opens_cut : s.opens_cut
unfolding tiff_on_literals
opens_cut = λ r.
    let header : Header = record { order = LittleEndian; kind = Classic; first = 25 } in
    false≢true ((r.first header refl).directory.entries 14 refl 198 (omega arith) (omega arith))

abbrev offsets : Field
offsets = of LONG 3 (0x20 ∷ 0x00 ∷ 0x00 ∷ 0x00 ∷ 0x00 ∷ 0x00 ∷ 0x00 ∷ 0x00 ∷ [])

abbrev placed : SourceRecord
placed = s.placed_source ((14, 30) ∷ [])

-- the second directory of `placed` has one entry
placed_directory : DirectoryReadable placed Classic LittleEndian 14
unfolding tiff_on_literals
placed_directory = record {
  count = λ k l h. in_first 14 30 [] k l (omega (arith, h));
  entries = λ n e k l h.
      let one : 1 ≡ n = ap count_in e in
      in_first 14 30 [] k (omega (arith, l)) (omega (arith, h, one));
}

pub enters : s.enters
unfolding tiff_on_literals
enters = record {
  directory = placed_directory;
  page = λ directory e.
      subst (λ (x : DirectoryRecord). PageReadable placed Classic LittleEndian x) (ap directory_in e)
      (page_held placed ((273, offsets) ∷ []) None (record { placed = λ w k l h. in_first 14 30 [] k (omega (arith, l)) (omega (arith, h)) }) refl);
}

pub enters_cut : s.enters_cut
unfolding tiff_on_literals
enters_cut = λ r.
    let source : SourceRecord = s.placed_source ((14, 29) ∷ []) in
    let directory : DirectoryRecord =
    directory_in (directory_at Classic LittleEndian s.placed_file 14) in
    tag_unheld source ((273, offsets) ∷ []) None tag.StripOffsets offsets refl
    (λ f. false≢true (f.placed (omega arith) 43 (omega arith) (omega arith)))
    ((r.page directory refl).each tag.StripOffsets refl)

-- ---- the page with a number

-- the count and the link of the only directory of `gray_file`
gray_link : LinkReadable (s.gray_source ((25, 2) ∷ (195, 4) ∷ [])) Classic LittleEndian 25
unfolding tiff_on_literals
gray_link = record {
  count = λ k l h. in_first 25 2 ((195, 4) ∷ []) k l h;
  link = λ n e k l h.
      let many : 14 ≡ n = ap count_in e in
      in_later (25, 2) ((195, 4) ∷ []) k (in_first 195 4 [] k (omega (arith, l, many)) (omega (arith, h, many)));
}

-- a walk of `gray_file` is before the directory at 25, or after it
on_gray : (offsets : List ℕ) (next : Option ℕ)
    → ChainBegins Classic LittleEndian gray_file 25 (record { offsets = offsets; next = next })
    → length offsets ≤ 1
    → (at : ℕ) → next ≡ Some at → 25 ≡ at
unfolding tiff_on_literals
on_gray [] next b l at n =
    let link = link_from Classic LittleEndian gray_file in
    let on : IsChain link [] next (25 ∷ []) None =
    subst (λ rest. IsChain link [] next rest None) (sym b.offsets) b.goes_on in
    ap offset_of (sym (goes_on link [] next 25 [] None on) ∙ n)
on_gray (x ∷ []) next b l at n =
    let link = link_from Classic LittleEndian gray_file in
    let on : IsChain link (x ∷ []) next [] None =
    subst (λ rest. IsChain link (x ∷ []) next rest None) (sym (ap (drop 1) b.offsets)) b.goes_on in
    absurd (none-some at (sym (ends_there link (x ∷ []) next on) ∙ n))
on_gray (x ∷ y ∷ zs) next b l at n = absurd (omega (arith, l))

pub seeks_1 : s.seeks_1
unfolding tiff_on_literals
seeks_1 = record {
  way = record {
    link = λ w b l. record {
      link =
          λ at n. subst (λ p. LinkReadable (s.gray_source ((25, 2) ∷ (195, 4)
          ∷ [])) Classic LittleEndian p) (on_gray w.offsets w.next b l at n) gray_link;
    };
  };
  entry = λ at e. absurd (none-some at e);
}

-- the walk that begins at the directory at 25
begins_gray : ChainBegins Classic LittleEndian gray_file 25 (record { offsets = []; next = Some 25 })
unfolding tiff_on_literals
begins_gray =
    record { linked = refl; rest = 25 ∷ []; offsets = refl; goes_on = (refl, None, refl, refl) }

pub seeks_1_cut : s.seeks_1_cut
unfolding tiff_on_literals
seeks_1_cut = λ r.
    let walk : Walked = record { offsets = []; next = Some 25 } in
    false≢true (((r.way.link walk begins_gray (omega arith)).link 25 refl).link 14 refl 198 (omega arith) (omega arith))

-- all bytes of the directory of `gray_file`
gray_alone : DirectoryReadable (s.gray_source ((25, 174) ∷ [])) Classic LittleEndian 25
unfolding tiff_on_literals
gray_alone = record {
  count = λ k l h. in_first 25 174 [] k l (omega (arith, h));
  entries = λ n e k l h.
      let many : 14 ≡ n = ap count_in e in
      in_first 25 174 [] k (omega (arith, l)) (omega (arith, h, many));
}

link_alone : LinkReadable (s.gray_source ((25, 174) ∷ [])) Classic LittleEndian 25
unfolding tiff_on_literals
link_alone = record {
  count = λ k l h. in_first 25 174 [] k l (omega (arith, h));
  link = λ n e k l h.
      let many : 14 ≡ n = ap count_in e in
      in_first 25 174 [] k (omega (arith, l, many)) (omega (arith, h, many));
}

pub seeks_0 : s.seeks_0
unfolding tiff_on_literals
seeks_0 = record {
  way = record {
    link = λ w b l. record {
      link =
          λ at n. subst (λ p. LinkReadable (s.gray_source ((25, 174)
          ∷ [])) Classic LittleEndian p) (on_gray w.offsets w.next b (omega (arith, l)) at n) link_alone;
    };
  };
  entry =
      λ at e. subst (λ p. EntryReadable (s.gray_source ((25, 174)
      ∷ [])) Classic LittleEndian p) (ap offset_of e) (gray_entry ((25, 174) ∷ []) gray_alone);
}

pub seeks_0_cut : s.seeks_0_cut
unfolding tiff_on_literals
seeks_0_cut =
    λ r. false≢true ((r.entry 25 refl).directory.entries 14 refl 27 (omega arith) (omega arith))

-- ---- the next page

-- after the last directory that a walk entered, the walk's next offset is that directory's link
link_of : (bytes : List ℕ) (first last : ℕ) (walk : Walked)
    → ChainBegins Classic LittleEndian bytes first walk → last_or None walk.offsets ≡ Some last
    → link_from Classic LittleEndian bytes last ≡ Ok walk.next
link_of bytes first last walk b l =
    ap (link_behind Classic LittleEndian bytes first) (sym l) ∙ b.linked

abbrev next_in : Result (Option ℕ) TiffError → Option ℕ
next_in (Ok next) = next
next_in (Err e) = None

-- after the first of two directories, the second is next
second_next : (walk : Walked) → ChainBegins Classic LittleEndian s.placed_file 8 walk
    → last_or None walk.offsets ≡ Some 8 → (at : ℕ) → walk.next ≡ Some at → 14 ≡ at
unfolding tiff_on_literals
second_next walk b last at n = ap offset_of (ap next_in (link_of s.placed_file 8 8 walk b last) ∙ n)

pub second_behind : s.second_behind
unfolding tiff_on_literals
second_behind = record {
  entry = λ at e. subst (λ p. EntryReadable placed Classic LittleEndian p) (ap offset_of e) enters;
  behind = λ w b last. record {
    directory =
        λ at n. subst (λ p. DirectoryReadable placed Classic LittleEndian p)
        (second_next w b last at n) placed_directory;
  };
}

pub second_behind_cut : s.second_behind_cut
unfolding tiff_on_literals
second_behind_cut = λ r. enters_cut (r.entry 14 refl)

-- a file whose second directory links back to the first
abbrev back : List ℕ
back = two_file (0x19 ∷ 0x00 ∷ 0x00 ∷ 0x00 ∷ [])

-- the error at the end of the chain of `back`
abbrev cycle : TiffError
cycle = FormatError CycleInOffsets

-- after the first directory of `back`, the second is next
back_next : (walk : Walked) → ChainBegins Classic LittleEndian back 25 walk
    → last_or None walk.offsets ≡ Some 25 → (at : ℕ) → walk.next ≡ Some at → 199 ≡ at
unfolding tiff_on_literals
back_next walk b last at n = ap offset_of (ap next_in (link_of back 25 25 walk b last) ∙ n)

abbrev back_source : List (ℕ × ℕ) → SourceRecord
back_source stretches = record { bytes = back; readable = Some stretches }

pub back_behind_cut : s.back_behind_cut
unfolding tiff_on_literals
back_behind_cut = λ r.
    let walk : Walked = record { offsets = 25 ∷ []; next = Some 199 } in
    let begins : ChainBegins Classic LittleEndian back 25 walk =
    record { linked = refl; rest = []; offsets = refl; goes_on = (cycle, refl, refl) } in
    false≢true (((r.behind walk begins refl).directory 199 refl).entries 0 refl 204 (omega arith) (omega arith))

-- the counts and the links of both directories
abbrev both : List (ℕ × ℕ)
both = (25, 2) ∷ (195, 4) ∷ (199, 6) ∷ []

back_first : LinkReadable (back_source both) Classic LittleEndian 25
unfolding tiff_on_literals
back_first = record {
  count = λ k l h. in_first 25 2 ((195, 4) ∷ (199, 6) ∷ []) k l h;
  link = λ n e k l h.
      let many : 14 ≡ n = ap count_in e in
      in_later (25, 2) ((195, 4) ∷ (199, 6) ∷ []) k (in_first 195 4 ((199, 6)
      ∷ []) k (omega (arith, l, many)) (omega (arith, h, many)));
}

back_second : LinkReadable (back_source both) Classic LittleEndian 199
unfolding tiff_on_literals
back_second = record {
  count =
      λ k l h. in_later (25, 2) ((195, 4) ∷ (199, 6)
      ∷ []) k (in_later (195, 4) ((199, 6) ∷ []) k (in_first 199 6 [] k l (omega (arith, h))));
  link = λ n e k l h.
      let none : 0 ≡ n = ap count_in e in
      in_later (25, 2) ((195, 4) ∷ (199, 6) ∷ []) k (in_later (195, 4) ((199, 6)
      ∷ []) k (in_first 199 6 [] k (omega (arith, l, none)) (omega (arith, h, none))));
}

-- a walk of `back` has the first or the second directory before it
back_way : (offsets : List ℕ) (next : Option ℕ)
    → ChainBegins Classic LittleEndian back 25 (record { offsets = offsets; next = next })
    → (at : ℕ) → next ≡ Some at → LinkReadable (back_source both) Classic LittleEndian at
unfolding tiff_on_literals
back_way [] next b at n =
    subst (λ p. LinkReadable (back_source both) Classic LittleEndian p)
    (ap offset_of (ap next_in b.linked ∙ n)) back_first
back_way (x ∷ []) next b at n =
    let first : Some x ≡ Some 25 = ap Some (sym (ap (λ xs. get_or xs 0 0) b.offsets)) in
    let at_second = back_next (record { offsets = x ∷ []; next = next }) b first at n in
    subst (λ p. LinkReadable (back_source both) Classic LittleEndian p) at_second back_second
back_way (x ∷ y ∷ zs) next b at n = absurd (omega (arith, ap length b.offsets))

pub seeks_back : s.seeks_back
unfolding tiff_on_literals
seeks_back = record {
  way = record { link = λ w b l. record { link = back_way w.offsets w.next b } };
  entry = λ at e. absurd (none-some at e);
}

pub seeks_back_cut : s.seeks_back_cut
unfolding tiff_on_literals
seeks_back_cut = λ r.
    let walk : Walked = record { offsets = 25 ∷ []; next = Some 199 } in
    let begins : ChainBegins Classic LittleEndian back 25 walk =
    record { linked = refl; rest = []; offsets = refl; goes_on = (cycle, refl, refl) } in
    false≢true (((r.way.link walk begins (omega arith)).link 199 refl).link 0 refl 204 (omega arith) (omega arith))

-- ---- reads at the offset, and of tags

pub tag_readable : s.tag_readable
unfolding tiff_on_literals
tag_readable = λ h.
    false≢true (sym (h (tag_held (s.gray_source ((8, 8) ∷ [])) (reverse gray_entries) None tag.XResolution (record { placed = λ w k l m. in_first 8 8 [] k l m }))))

pub tag_unreadable : s.tag_unreadable
unfolding tiff_on_literals
tag_unreadable = λ r.
    absurd (tag_unheld (s.gray_source ((8, 7) ∷ [])) (reverse gray_entries) None tag.XResolution
    (one_rational (0x08 ∷ 0x00 ∷ 0x00 ∷ 0x00 ∷ 0x00 ∷ 0x00 ∷ 0x00 ∷ 0x00 ∷ [])) refl
    (λ f. false≢true (f.placed (omega arith) 15 (omega arith) (omega arith))) r)

pub tag_in_entry : s.tag_in_entry
tag_in_entry = λ h.
    false≢true (sym (h (tag_held (s.gray_source []) (reverse gray_entries) None tag.ImageWidth (record { placed = λ w. absurd (omega (arith, w)) }))))

pub ruleset worked = (
  opens,
  opens_cut,
  enters,
  enters_cut,
  seeks_1,
  seeks_1_cut,
  seeks_0,
  seeks_0_cut,
  second_behind,
  second_behind_cut,
  back_behind_cut,
  seeks_back,
  seeks_back_cut,
  tag_readable,
  tag_unreadable,
  tag_in_entry,
)
