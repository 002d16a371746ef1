-- Worked examples of models of what is written, and of what calls do to them.
use Rattle.std.specs.Prelude.{◌≡◌, ℕ, List, [], ◌∷◌, ◌++◌, take, Some, None, Ok, Err}
use Rattle.std.specs.FinMap.{FinMap, from_entries}
use Rattle.std.specs.Ordering.{nat_cmp}
use Rattle.tiff_base.specs.declared.error.TiffError.TheVariants.{IntSizeError}
use Rattle.tiff_base.specs.declared.tags.FileKind.TheVariants.{Classic, Big}
use Rattle.tiff_base.specs.declared.tags.ByteOrder.TheVariants.{LittleEndian}
use Rattle.tiff_base.specs.declared.tags.«Type».TheVariants.{SHORT}
use Rattle.tiff_base.specs.Field.{Field}
use Rattle.tiff_base.specs.Directory.{directory_at}
use Rattle.tiff_value.specs.FileLaws.{OpFits, OpsFit, AreAppending}
use Rattle.tiff_value.specs.Model.{BytesAreApart, In, FinishedDirectory, SuppliedField, ByteRegion, Model, IsLink, IsClear, IsApart, own_link, whole_len, FileContains, header_model, with_link, with_directory, with_region, with_supplied, Grows}
use Rattle.tiff_encode.specs.Shows.{Image, Shows, ShowsFirst, ShowsGray, gray_image}
use Rattle.tiff_value.specs.WriteOps.{Appended, Supplied, Listed, Linked, after_op, bytes_after, all_appended, standing_field, model_after}
use Rattle.tiff_encode.specs.Machine.{begun_file, answers, gives, does, by_cause, ◌>>=◌}
use Rattle.test_definitions.specs.OneValue.{short_field, long_field, rational_field, one_to_one}
use Rattle.test_definitions.specs.Files.{gray_file}
use Rattle.test_definitions.specs.Encode.Causes.{new_file, file_with}
use Rattle.test_definitions.specs.Encode.Calls.{header}

-- an item of a list
abbrev pub is_in : Type 0
is_in = In {A = ℕ} 2 (1 ∷ 2 ∷ [])

abbrev pub is_not_in : Type 0
is_not_in = In {A = ℕ} 3 (1 ∷ 2 ∷ []) → ⊥

-- the header contains the header's model; without its last byte it contains no model
abbrev pub header_stands : Type 0
header_stands = FileContains Classic header (header_model Classic)

abbrev pub cut_header : Type 0
cut_header = (m : Model) → FileContains Classic (take 7 header) m → ⊥

-- mistake: `FileContains` doesn't test the header's link
-- if the header's link is 9, the file contains no model whose link is 0
abbrev pub other_target : Type 0
other_target =
    FileContains Classic (0x49 ∷ 0x49 ∷ 0x2a ∷ 0x00 ∷ 0x09 ∷ 0x00 ∷ 0x00 ∷ 0x00 ∷ [])
    (header_model Classic) → ⊥

-- mistake: `FileContains` allows regions past the end
-- a file doesn't contain a region that reaches past its end
abbrev pub past_end : Type 0
past_end =
    FileContains Classic header
    (with_region (header_model Classic) (record { offset = 7; bytes = 0 ∷ 0 ∷ [] })) → ⊥

-- a model with the link of one directory, at 22
abbrev pub fields_5 : FinMap nat_cmp Field
fields_5 = from_entries ((256, long_field 5) ∷ [])

abbrev pub directory_8 : FinishedDirectory
directory_8 = record { offset = 8; fields = fields_5 }

abbrev pub first_model : Model
first_model = with_directory Classic (header_model Classic) directory_8

-- mistake: `own_link` is after the count
abbrev pub own_22 : Type 0
own_22 = own_link Classic directory_8 ≡ 22

abbrev pub link_22 : Type 0
link_22 = IsLink Classic first_model 22

abbrev pub link_4 : Type 0
link_4 = IsLink Classic first_model 4

-- mistake: `IsLink` allows any offset
abbrev pub no_link : Type 0
no_link = IsLink Classic (header_model Classic) 5 → ⊥

abbrev pub link_8_big : Type 0
link_8_big = IsLink Big (header_model Big) 8

-- a link field of four bytes at 4 is clear of a byte at 8, and not of a byte at 7
abbrev pub clear : Type 0
clear = IsClear Classic 4 8 1

abbrev pub before : Type 0
before = IsClear Classic 4 0 4

-- mistake: `IsClear` allows a link that overlaps
abbrev pub not_clear : Type 0
not_clear = IsClear Classic 4 7 2 → ⊥

-- adjacent bytes, and bytes that overlap
abbrev pub next_to : Type 0
next_to = BytesAreApart 4 4 8 1

abbrev pub overlapping : Type 0
overlapping = BytesAreApart 7 2 8 1 → ⊥

-- a directory of one entry has 18 bytes with its link; a file contains no region over it
abbrev pub whole_18 : Type 0
whole_18 = whole_len Classic directory_8 ≡ 18

abbrev pub overlaid : Type 0
overlaid = (file : List ℕ)
    → FileContains Classic file (with_region first_model (record { offset = 9; bytes = 7 ∷ [] })) → ⊥

-- a link at 4 fits into 8 bytes, and not into 7
abbrev pub apart : Type 0
apart = IsApart Classic header (header_model Classic) 4

-- mistake: `IsApart` allows a link past the end
abbrev pub not_apart : Type 0
not_apart = IsApart Classic (take 7 header) (header_model Classic) 4 → ⊥

-- mistake: `with_link` exchanges offset and target
-- a link that is pointed to another offset; other links stay
abbrev pub relinked_4 : Type 0
relinked_4 = (with_link Classic (header_model Classic) 4 8).links 4 ≡ 8

abbrev pub kept_22 : Type 0
kept_22 = (with_link Classic (with_link Classic (header_model Classic) 22 5) 4 8).links 22 ≡ 5

-- mistake: `with_directory` has a link that isn't 0
-- the link of a new directory is 0, whatever its former value
abbrev pub new_link : Type 0
new_link =
    (with_directory Classic (with_link Classic (header_model Classic) 22 5) directory_8).links 22
    ≡ 0

-- a model that grew contains the former model
abbrev pub one_region : ByteRegion
one_region = record { offset = 8; bytes = 7 ∷ [] }

abbrev pub grows : Type 0
grows = (m : Model) → Grows m (with_region m one_region)

abbrev pub grows_supplied : Type 0
grows_supplied = (m : Model)
    → Grows m (with_supplied m (record { field = long_field 5; bytes = 5 ∷ 0 ∷ 0 ∷ 0 ∷ [] }))

-- mistake: `Grows` loses regions
abbrev pub shrinks : Type 0
shrinks = Grows (with_region (header_model Classic) one_region) (header_model Classic) → ⊥

-- ---- what a file shows

-- mistake: `Shows` takes the sample of another column
-- `gray_file` shows the gray pixel, and nothing else
abbrev pub gray_shows : Type 0
gray_shows = ShowsGray gray_file 1 1 (7 ∷ [])

-- mistake: `Shows` compares no sample
abbrev pub other_sample : Type 0
other_sample = ShowsGray gray_file 1 1 (8 ∷ []) → ⊥

-- mistake: `Shows` doesn't compare the page
abbrev pub other_width : Type 0
other_width = Shows Classic gray_file 25 (gray_image 2 1 (7 ∷ 7 ∷ [])) → ⊥

-- mistake: `ShowsFirst` allows another kind
-- `gray_file` isn't a BigTIFF file, and its first page is nowhere else
abbrev pub other_kind : Type 0
other_kind = (i : Image) → ShowsFirst Big gray_file i → ⊥

-- mistake: `ShowsFirst` allows another offset
abbrev pub other_offset : Type 0
other_offset = (i : Image) (t : ShowsFirst Classic gray_file i) → t.offset ≡ 26 → ⊥

-- ---- what is done to a file

-- new encoders: the offset of the header's link
abbrev pub begun_classic : Type 0
begun_classic = (begun_file Classic [] 0).chain ≡ 4

-- mistake: `begun_file` doesn't find the link's offset after what the sink contained
abbrev pub begun_big : Type 0
begun_big = (begun_file Big (1 ∷ 2 ∷ []) 3).chain ≡ 10

abbrev pub begun_bytes : Type 0
begun_bytes = (begun_file Classic (1 ∷ []) 0).bytes ≡ (1 ∷ header)

-- each write operation on the bytes 1 to 6
abbrev pub six : List ℕ
six = 1 ∷ 2 ∷ 3 ∷ 4 ∷ 5 ∷ 6 ∷ []

abbrev pub op_appended : Type 0
op_appended = after_op Classic six (Appended (7 ∷ [])) ≡ (1 ∷ 2 ∷ 3 ∷ 4 ∷ 5 ∷ 6 ∷ 7 ∷ [])

-- mistake: `after_op` exchanges offset and target
abbrev pub op_linked : Type 0
op_linked = after_op Classic six (Linked 1 258) ≡ (1 ∷ 2 ∷ 1 ∷ 0 ∷ 0 ∷ 6 ∷ [])

abbrev pub op_supplied : Type 0
op_supplied = after_op Classic six (Supplied (record { field = long_field 5; bytes = [] })) ≡ six

-- mistake: `bytes_after` does the write operations in the reverse order
-- operations take effect in their order: a link overwrites appended bytes
abbrev pub ops_order : Type 0
ops_order = bytes_after Classic [] (Appended six ∷ Linked 1 258 ∷ []) ≡ (1 ∷ 2 ∷ 1 ∷ 0 ∷ 0 ∷ 6 ∷ [])

abbrev pub ops_none : Type 0
ops_none = bytes_after Classic six [] ≡ six

-- mistake: `all_appended` appends in the reverse order
abbrev pub appended_both : Type 0
appended_both = all_appended Classic (Appended (1 ∷ []) ∷ Linked 4 8 ∷ Appended (2 ∷ 3 ∷ []) ∷ [])
    ≡ (1 ∷ 2 ∷ 3 ∷ [])

abbrev pub appended_none : Type 0
appended_none =
    all_appended Classic (Supplied (record { field = long_field 5; bytes = 5 ∷ [] }) ∷ []) ≡ []

-- mistake: `model_after` has a region one length too far
-- mistake: `model_after` doesn't move the offsets on
-- the model after the operations: each region is where it was appended
abbrev pub model_regions : Type 0
model_regions =
    (model_after Classic header (header_model Classic)
    (Appended (7 ∷ []) ∷ Appended (8 ∷ 9 ∷ []) ∷ [])).regions
    ≡ record { offset = 9; bytes = 8 ∷ 9 ∷ [] } ∷ one_region ∷ []

abbrev pub model_finished : Type 0
model_finished =
    model_after Classic header (header_model Classic) (Listed fields_5 ∷ Linked 4 8 ∷ [])
    ≡ with_link Classic first_model 4 8

-- ---- fields as the file contains them

-- a hand-made field with a value field of eight bytes: a classic file contains four of them, and
-- these are read
abbrev pub wide_field : Field
wide_field = record { field_type = SHORT; count = 1; value = 1 ∷ 0 ∷ 0 ∷ 0 ∷ 5 ∷ 0 ∷ 0 ∷ 0 ∷ [] }

abbrev pub wide_fields : FinMap nat_cmp Field
wide_fields = from_entries ((256, wide_field) ∷ [])

abbrev pub wide_file : List ℕ
wide_file =
    header
    ++ (0x01 ∷ 0x00 ∷ [])
    ++ (0x00 ∷ 0x01 ∷ 0x03 ∷ 0x00 ∷ 0x01 ∷ 0x00 ∷ 0x00 ∷ 0x00 ∷ 0x01 ∷ 0x00 ∷ 0x00 ∷ 0x00 ∷ [])
    ++ (0x00 ∷ 0x00 ∷ 0x00 ∷ 0x00 ∷ [])

abbrev pub wide_cut : Type 0
wide_cut = standing_field Classic wide_field ≡ short_field 1

abbrev pub wide_whole : Type 0
wide_whole = standing_field Big wide_field ≡ wide_field

abbrev pub wide_listed : Type 0
wide_listed = bytes_after Classic header (Listed wide_fields ∷ []) ≡ wide_file

abbrev pub wide_read : Type 0
wide_read =
    directory_at Classic LittleEndian wide_file 8
    ≡ Ok (record { entries = from_entries ((256, short_field 1) ∷ []); next = None })

abbrev pub wide_stands : Type 0
wide_stands =
    FileContains Classic wide_file
    (model_after Classic header (header_model Classic) (Listed wide_fields ∷ []))

abbrev pub wide_as_given : Type 0
wide_as_given =
    FileContains Classic wide_file
    (with_directory Classic (header_model Classic) (record { offset = 8; fields = wide_fields }))
    → ⊥

-- ---- write operations that fit

-- the bytes of a field in its entry fit, and others don't
abbrev pub fits_inline : Type 0
fits_inline =
    OpFits Classic (header_model Classic)
    (Supplied (record { field = short_field 2; bytes = 2 ∷ 0 ∷ [] }))

abbrev pub fits_other : Type 0
fits_other =
    OpFits Classic (header_model Classic)
    (Supplied (record { field = short_field 2; bytes = 3 ∷ 0 ∷ [] })) → ⊥

-- supplied bytes fit after they were appended, and not before
abbrev pub supplied_one : SuppliedField
supplied_one = record { field = rational_field 8; bytes = one_to_one }

abbrev pub fits_appended : Type 0
fits_appended =
    OpsFit Classic header (header_model Classic) (Appended one_to_one ∷ Supplied supplied_one ∷ [])

abbrev pub fits_early : Type 0
fits_early =
    OpsFit Classic header (header_model Classic) (Supplied supplied_one ∷ Appended one_to_one ∷ [])
    → ⊥

-- a directory with a link from the header fits; another offset isn't a link
abbrev pub fits_listed : Type 0
fits_listed = OpsFit Classic header (header_model Classic) (Listed wide_fields ∷ Linked 4 8 ∷ [])

abbrev pub fits_no_link : Type 0
fits_no_link = OpFits Classic (header_model Classic) (Linked 5 8) → ⊥

-- write operations that append, and one that doesn't
abbrev pub appending : Type 0
appending = AreAppending (Appended six ∷ Supplied supplied_one ∷ Listed fields_5 ∷ [])

abbrev pub not_appending : Type 0
not_appending = AreAppending (Appended six ∷ Linked 4 8 ∷ []) → ⊥

-- mistake: `does` forgets write operations
-- calls one after another: their operations are joined, and an error ends them
abbrev pub joined : Type 0
joined = ((do
  _ ← does (Appended (1 ∷ []) ∷ [])
  _ ← does (Appended (2 ∷ []) ∷ [])
  gives {A = ℕ} 5) (file_with Classic []))
    ≡ record {
      answer = Ok 5;
      ops = Appended (1 ∷ []) ∷ Appended (2 ∷ []) ∷ [];
      next = file_with Classic (1 ∷ 2 ∷ []);
    }

abbrev pub broken_off : Type 0
broken_off = ((do
  _ ← does (Appended (1 ∷ []) ∷ [])
  _ ← answers {A = ℕ} (Err IntSizeError)
  does (Appended (2 ∷ []) ∷ [])) (file_with Classic []))
    ≡ record {
      answer = Err IntSizeError;
      ops = Appended (1 ∷ []) ∷ [];
      next = file_with Classic (1 ∷ []);
    }

-- mistake: `does` marks the encoder at an error
-- mistake: `by_cause` does the call all the same
abbrev pub caused : Type 0
caused = (by_cause (Some IntSizeError) (does (Appended (1 ∷ []) ∷ [])) (new_file Classic))
    ≡ record { answer = Err IntSizeError; ops = []; next = new_file Classic }

abbrev pub uncaused : Type 0
uncaused = (by_cause {A = ℕ} None (gives 5) (new_file Classic)).answer ≡ Ok 5
