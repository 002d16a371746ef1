-- Values within all limits, whose bytes are in the source.
use Rattle.std.proofs.Common.{◌≡◌, ℕ, List, ◌∷◌, Bool, true, false, Option, None, Some, Vec, Result, Ok, Err, refl, ap, subst}
use Rattle.std.specs.declared.alloc.Global.{Global}
use Rattle.std.specs.Prelude.{IsOk, if◌then◌else◌}
use Rattle.tiff_base.specs.declared.error.TiffError.{TiffError}
use Rattle.tiff_base.specs.declared.error.TiffError.TheVariants.{FormatError, IoError, LimitsExceeded}
use Rattle.tiff_base.specs.declared.io.IoKind.TheVariants.{UnexpectedEof}
use Rattle.tiff_base.specs.declared.error.TiffFormatError.TheVariants.{InvalidTag}
use Rattle.tiff_base.specs.declared.tags.ByteOrder.{ByteOrder}
use Rattle.tiff_base.specs.declared.tags.FileKind.{FileKind}
use Rattle.tiff_base.specs.declared.tags.«Type».{«Type»}
use Rattle.tiff_base.specs.declared.tags.«Type».TheVariants as t
use Rattle.tiff_base.specs.Answers.{AnswersBut, IsCause, ◌>>=◌}
use Rattle.tiff_base.specs.Field.{Field}
use Rattle.tiff_base.specs.SourceAndSink.{exactly_at}
use Rattle.tiff_base.specs.Sparing.{IsFoundWithin, IsWithinLimits}
use Rattle.tiff_base.specs.lemmas.Causes.{cause_along}
use Rattle.tiff_ifd.specs.PlainValue.{PlainValue, PlainValueList, none, more, list, byte, ascii}
use Rattle.tiff_ifd.specs.FieldValue.{WantsFound, WantsValue, placed_text, stands_in_entry, value_from}
use Rattle.tiff_ifd.specs.Into.{each_item, into_string, into_u64, into_u64_vec}
use Rattle.tiff_ifd.specs.TagLookup.{if_found}
use Rattle.tiff_ifd.specs.Unsigned.{numbers_from}

text_within : {Y : Type 0} (b : Bool) (y : Y)
    → IsWithinLimits (if b then Ok y else Err (FormatError InvalidTag))
text_within true y = tt
text_within false y = tt

-- an error of bytes that were read is not `LimitsExceeded`
pub value_within : (inline : Bool) (type : «Type») (order : ByteOrder) (count : ℕ) (bytes : List ℕ)
    → IsWithinLimits (value_from inline type order count bytes)
value_within true t.ASCII order count bytes = text_within _ _
value_within false t.ASCII order count bytes = text_within _ _
value_within inline t.BYTE order count bytes = tt
value_within inline t.SHORT order count bytes = tt
value_within inline t.LONG order count bytes = tt
value_within inline t.RATIONAL order count bytes = tt
value_within inline t.SBYTE order count bytes = tt
value_within inline t.UNDEFINED order count bytes = tt
value_within inline t.SSHORT order count bytes = tt
value_within inline t.SLONG order count bytes = tt
value_within inline t.SRATIONAL order count bytes = tt
value_within inline t.FLOAT order count bytes = tt
value_within inline t.DOUBLE order count bytes = tt
value_within inline t.IFD order count bytes = tt
value_within inline t.LONG8 order count bytes = tt
value_within inline t.SLONG8 order count bytes = tt
value_within inline t.IFD8 order count bytes = tt

-- an error of bytes that are in the source is not `LimitsExceeded`
pub read_within : (inline : Bool) (type : «Type») (order : ByteOrder) (count : ℕ)
    (found : Result (List ℕ) TiffError)
    → IsOk found → IsWithinLimits (found >>= λ bytes. value_from inline type order count bytes)
read_within inline type order count (Ok bytes) h = value_within inline type order count bytes
read_within inline type order count (Err e) h = absurd (cc)

-- ---- a limit comes first

unlimited_exactly : (b : Bool) (bytes : List ℕ)
    → (if b then Ok bytes else Err (IoError UnexpectedEof)) ≡ Err LimitsExceeded → ⊥
unlimited_exactly true bytes h = absurd (cc)
unlimited_exactly false bytes h = absurd (cc)

-- bytes at an offset are refused by no limit
pub exactly_unlimited : (bytes : List ℕ) (at len : ℕ) → exactly_at bytes at len ≡ Err LimitsExceeded
    → ⊥
exactly_unlimited bytes at len h = unlimited_exactly _ _ h

unlimited_value : (given : Result PlainValue TiffError) → IsWithinLimits given
    → given ≡ Err LimitsExceeded → ⊥
unlimited_value (Ok d) w h = absurd (cc)
unlimited_value (Err e) w h =
    let P : Result PlainValue TiffError → Type 0 = λ r. IsWithinLimits r in subst P h w

-- a value that is made of bytes is refused by no limit
pub value_unlimited : (inline : Bool) (type : «Type») (order : ByteOrder) (count : ℕ) (bytes : List ℕ)
    → value_from inline type order count bytes ≡ Err LimitsExceeded → ⊥
value_unlimited inline type order count bytes h =
    unlimited_value _ (value_within inline type order count bytes) h

-- a value whose bytes no limit refuses is refused by no limit
pub read_unlimited : (inline : Bool) (type : «Type») (order : ByteOrder) (count : ℕ)
    (found : Result (List ℕ) TiffError)
    → (found ≡ Err LimitsExceeded → ⊥)
    → (found >>= λ bytes. value_from inline type order count bytes) ≡ Err LimitsExceeded → ⊥
read_unlimited inline type order count (Ok bytes) n h =
    value_unlimited inline type order count bytes h
read_unlimited inline type order count (Err e) n h =
    n (ap (λ r. elim r [ Ok d ↦ Err LimitsExceeded | Err e ↦ Err e ]) h)

-- a value that a look-up finds is refused by a limit only if its read is
pub found_limited : (given : Result PlainValue TiffError)
    → (given >>= λ d. Ok (Some d)) ≡ Err LimitsExceeded → given ≡ Err LimitsExceeded
found_limited (Ok d) h = absurd (cc)
found_limited (Err e) h = ap (λ r. elim r [ Ok d ↦ Err LimitsExceeded | Err e ↦ Err e ]) h

text_string_within : (b : Bool) (text : List ℕ)
    → IsWithinLimits ((if b then Ok (ascii text) else Err (FormatError InvalidTag)) >>= into_string)
text_string_within true text = tt
text_string_within false text = tt

-- an error of a text whose bytes are in the source is not `LimitsExceeded`
pub text_read_within : (found : Result (List ℕ) TiffError) → IsOk found
    → IsWithinLimits (found >>= placed_text >>= into_string)
text_read_within (Ok bytes) h = text_string_within _ _
text_read_within (Err e) h = absurd (cc)

-- ---- where memory is allocated

-- a value that the look-up finds
pub found_wanted : (inline : Bool) (given : Result PlainValue TiffError) → WantsValue inline given
    → WantsValue inline (given >>= λ d. Ok (Some d))
found_wanted true (Ok d) h = h
found_wanted true (Err e) h = h
found_wanted false (Ok d) h = tt
found_wanted false (Err e) h = h

wanted_within : {Y : Type 0} (inline : Bool) (given : Result Y TiffError) → WantsValue inline given
    → IsWithinLimits given
wanted_within true (Ok y) h = tt
wanted_within true (Err e) h = absurd (cc)
wanted_within false given h = h

unfound : (given : Result PlainValue TiffError) → IsWithinLimits (given >>= λ d. Ok (Some d))
    → IsWithinLimits given
unfound (Ok d) h = tt
unfound (Err e) h = h

there_within : (given : Result PlainValue TiffError) → IsWithinLimits given
    → IsFoundWithin (given >>= λ d. Ok (Some d))
there_within (Ok d) h = tt
there_within (Err e) h = h

-- a value that the look-up finds is within the limits and the source
pub look_within : (kind : FileKind) (value : Field → Result PlainValue TiffError)
    (field : Option Field) → WantsFound kind field (if_found value field)
    → IsFoundWithin (if_found value field)
look_within kind value None h = absurd h
look_within kind value (Some e) h =
    there_within (value e) (unfound (value e) (wanted_within (stands_in_entry kind e) (if_found value (Some e)) h))

-- ---- numbers

bound_within : {A B : Type 0} (found : Result A TiffError) (next : A → Result B TiffError)
    → IsWithinLimits found → ((x : A) → IsWithinLimits (next x))
    → IsWithinLimits (found >>= next)
bound_within (Ok x) next h n = n x
bound_within (Err e) next h n = h

number_within : (d : PlainValue) → IsWithinLimits (into_u64 d)
number_within (byte n) = tt
number_within _ = tt

each_within : (ds : PlainValueList) → IsWithinLimits (each_item into_u64 ds)
each_within none = tt
each_within (more d ds) =
    bound_within (into_u64 d) (λ x. each_item into_u64 ds >>= λ xs. Ok (x ∷ xs)) (number_within d)
    (λ x. bound_within (each_item into_u64 ds) (λ xs. Ok (x ∷ xs)) (each_within ds) (λ xs. tt))

-- an error of the numbers of a value is not `LimitsExceeded`
pub numbers_within : (d : PlainValue) → IsWithinLimits (into_u64_vec d)
numbers_within (list ds) = each_within ds
numbers_within _ = tt

-- an error of a value that is read is one of its numbers
pub numbers_refused : (inline : Bool) (given : Result PlainValue TiffError) (failed : Type 0)
    (e : TiffError) → IsCause (WantsValue inline given) failed e (given ≡ Err e)
    → IsCause (IsWithinLimits (given >>= into_u64_vec)) failed e ((given >>= into_u64_vec) ≡ Err e)
numbers_refused inline given failed e h =
    cause_along e (λ w. bound_within given into_u64_vec (wanted_within inline given w) numbers_within) (λ f. f) (λ g. rw g refl) h

-- the numbers of a value that is read
pub numbers_answered : (given : Result PlainValue TiffError) (d : PlainValue) (failed : Type 0)
    (r : Result (Vec ℕ Global) TiffError) → given ≡ Ok d
    → AnswersBut (Unit {0}) ⊥ (λ v. v.items) r (into_u64_vec d)
    → AnswersBut (IsWithinLimits (given >>= into_u64_vec)) failed (λ v. v.items) r (given
    >>= into_u64_vec)
numbers_answered given d failed (Ok v) s h = rw s h
numbers_answered given d failed (Err e) s h =
    rw s (cause_along e (λ w. numbers_within d) (λ f. absurd f) (λ g. g) h)

-- the numbers of bytes that are in the source
pub placed_within : (type : «Type») (order : ByteOrder) (count : ℕ)
    (found : Result (List ℕ) TiffError) → IsOk found
    → IsWithinLimits (found >>= λ bytes. numbers_from type order count bytes)
placed_within type order count (Ok bytes) h =
    bound_within (value_from false type order count bytes) into_u64_vec
    (value_within false type order count bytes) numbers_within
placed_within type order count (Err e) h = absurd (cc)

-- the numbers of a value that the look-up finds
pub numbers_found : (given : Result PlainValue TiffError) → IsWithinLimits (given >>= into_u64_vec)
    → IsFoundWithin (given >>= λ d. Ok (Some d))
numbers_found (Ok d) h = tt
numbers_found (Err e) h = h

pub placed_cause : (failed : Type 0) (allowed : Bool) (type : «Type») (order : ByteOrder)
    (count : ℕ) (found : Result (List ℕ) TiffError) (e : TiffError)
    → allowed ≡ true → IsCause (IsOk found) failed e (found ≡ Err e)
    → IsCause (IsWithinLimits (if allowed then
    (found >>= λ bytes. numbers_from type order count bytes) else Err LimitsExceeded)) failed e
    ((if allowed then (found >>= λ bytes. numbers_from type order count bytes) else Err LimitsExceeded) ≡ Err e)
placed_cause failed false type order count found e a h = absurd (cc)
placed_cause failed true type order count found e a h =
    cause_along e (placed_within type order count found) (λ f. f) (λ g. rw g refl) h
