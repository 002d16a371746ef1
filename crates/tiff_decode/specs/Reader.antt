-- A decoder that reads the tags of a directory (as in the Rust crate).
use Rattle.std.specs.Prelude.{◌≡◌, ◌⊎◌, ℕ, ◌<◌, ◌≤◌, List, [], ◌∷◌, ◌++◌, Option, None, Some, option_map, Result, Ok, Err, Vec}
use Rattle.std.specs.declared.alloc.Global.{Global}
use Rattle.std.specs.Borrow.{MutBor}
use Rattle.tiff_base.specs.declared.error.TiffError.{TiffError}
use Rattle.tiff_base.specs.declared.error.TiffError.TheVariants.{FormatError}
use Rattle.tiff_base.specs.declared.error.TiffFormatError.TheVariants.{InvalidTagValueType}
use Rattle.tiff_base.specs.declared.tags.Tag.{Tag}
use Rattle.tiff_base.specs.Answers.{AnswersBut, IsCause, NoneSwallowed}
use Rattle.tiff_base.specs.Field.{DirectoryRecord}
use Rattle.tiff_decode.specs.declared.ifd_decoder.IfdDecoder.{IfdDecoder}
use Rattle.tiff_decode.specs.Machine.{Decoding, Outcome}

-- the other directory if there is one, else this one
abbrev pub directory_or : DirectoryRecord → Option DirectoryRecord → DirectoryRecord
directory_or own None = own
directory_or own (Some other) = other

-- the decoder that reads the tags of its page's directory, or of another directory
abbrev pub reader_of : Decoding → Option DirectoryRecord → Decoding
reader_of d other =
    record d { state = record d.state { directory = directory_or d.state.directory other } }

-- A read of tags leaves the state unchanged. Its result, through a view, is the one of the outcome,
-- or out of memory where that is allowed, or an error of the device. Only an error of the device
-- increases the count of failed reads.
pub record TagsRead {X Y : Type 0} (wanting : Type 0) (view : X → Y) (given : Outcome Y)
    (result : Result X TiffError) (old new : Decoding) : Type 0 where
  pub answer : AnswersBut wanting (old.failures < new.failures) view result given.answer
  pub state : new ≡ record old { failures = new.failures }
  pub failures : old.failures ≤ new.failures
  pub swallowed : NoneSwallowed result old.failures new.failures

-- The reference to the decoder is the same, and at most the count of failed reads has changed.
pub record IsBorrowed (old new : MutBor Decoding) : Type 0 where
  pub same_reference : new.ghost_name ≡ old.ghost_name
  pub state : new.now ≡ record old.now { failures = new.now.failures }
  pub failures : old.now.failures ≤ new.now.failures

-- ---- the calls of an `IfdDecoder`

-- the decoder that an `IfdDecoder` borrows, with the directory that it reads
abbrev pub reading : {R : Type 0} → IfdDecoder R → Decoding
reading reader = reader_of reader.decoder.now (option_map (λ d. d.now) reader.other)

-- The `IfdDecoder` keeps its decoder and its directory. At most the count of failed reads changes,
-- and only with an error of the device.
pub record KeepsReading {R X : Type 0} (result : Result X TiffError) (old new : IfdDecoder R) : Type
    0 where
  pub held : IsBorrowed old.decoder new.decoder
  pub other : new.other ≡ old.other
  pub swallowed : NoneSwallowed result old.decoder.now.failures new.decoder.now.failures

-- The `IfdDecoder` returns the result of the outcome, through a view, or out of memory where that
-- is allowed, or an error of the device. It keeps its decoder and its directory.
pub record ReadsTags {R X Y : Type 0} (wanting : Type 0) (view : X → Y) (given : Outcome Y)
    (result : Result X TiffError) (old new : IfdDecoder R) : Type 0 where
  pub answer : AnswersBut wanting (old.decoder.now.failures < new.decoder.now.failures) view result
      given.answer
  pub kept : KeepsReading result old new

-- ---- numbers of any type

-- A tag's number as another type, where `gives` defines the conversion. A number that does not fit
-- gives `InvalidTagValueType`.
abbrev pub IsNumber : {X E : Type 0} → (ℕ → Result X E → Type 0) → Tag → ℕ → Result X TiffError
    → Type 0
IsNumber gives tag n (Ok x) = gives n (Ok x)
IsNumber {E = E} gives tag n (Err e) = (f : E) × gives n (Err f)
    × (e ≡ FormatError (InvalidTagValueType tag))

-- a number as another type, or out of memory where that is allowed, or an error of the device
abbrev pub NumberAs : {X E : Type 0} → (ℕ → Result X E → Type 0) → Type 0 → Type 0 → Tag
    → Result ℕ TiffError → Result X TiffError → Type 0
NumberAs gives wanting failed tag given (Ok x) = (n : ℕ) × (given ≡ Ok n)
    × IsNumber gives tag n (Ok x)
NumberAs gives wanting failed tag given (Err e) =
    IsCause wanting failed e
    ((given ≡ Err e) ⊎ ((n : ℕ) × (given ≡ Ok n) × IsNumber gives tag n (Err e)))

-- a number as another type, if there is such a tag, or out of memory where that is allowed, or an
-- error of the device
abbrev pub NumberIfAs : {X E : Type 0} → (ℕ → Result X E → Type 0) → Type 0 → Type 0 → Tag
    → Result (Option ℕ) TiffError → Result (Option X) TiffError → Type 0
NumberIfAs gives wanting failed tag given (Ok None) = given ≡ Ok None
NumberIfAs gives wanting failed tag given (Ok (Some x)) = (n : ℕ) × (given ≡ Ok (Some n))
    × IsNumber gives tag n (Ok x)
NumberIfAs gives wanting failed tag given (Err e) =
    IsCause wanting failed e
    ((given ≡ Err e) ⊎ ((n : ℕ) × (given ≡ Ok (Some n)) × IsNumber gives tag n (Err e)))

-- ---- lists of numbers of any type

-- each number of a list as the other type
abbrev pub EachGives : {X E : Type 0} → (ℕ → Result X E → Type 0) → List ℕ → List X → Type 0
EachGives gives [] [] = Unit {0}
EachGives gives [] (x ∷ xs) = ⊥
EachGives gives (n ∷ ns) [] = ⊥
EachGives gives (n ∷ ns) (x ∷ xs) = gives n (Ok x) × EachGives gives ns xs

-- The first number of a list that does not fit the type, and its error.
pub record FirstUnfit {X E : Type 0} (gives : ℕ → Result X E → Type 0) (tag : Tag) (ns : List ℕ)
    (e : TiffError) : Type 0 where
  pub before : List ℕ
  pub fitting : List X
  pub n : ℕ
  pub after : List ℕ
  pub is : ns ≡ before ++ n ∷ after
  pub fits : EachGives gives before fitting
  pub unfit : IsNumber gives tag n (Err e)

-- the numbers of a list as the other type, or the error of the first that does not fit, or out of
-- memory
abbrev pub NumbersAs : {X E : Type 0} → (ℕ → Result X E → Type 0) → Tag → List ℕ
    → Result (Vec X Global) TiffError → Type 0
NumbersAs gives tag ns (Ok v) = EachGives gives ns v.items
NumbersAs gives tag ns (Err e) = IsCause (Unit {0}) ⊥ e (FirstUnfit gives tag ns e)

-- the numbers as the other type, if there is such a tag, or the error of the first that does not
-- fit
abbrev pub NumbersIfAs : {X E : Type 0} → (ℕ → Result X E → Type 0) → Type 0 → Type 0 → Tag
    → Result (Option (List ℕ)) TiffError → Result (Option (Vec X Global)) TiffError → Type 0
NumbersIfAs gives wanting failed tag given (Ok None) = given ≡ Ok None
NumbersIfAs gives wanting failed tag given (Ok (Some v)) = (ns : List ℕ) × (given ≡ Ok (Some ns))
    × EachGives gives ns v.items
NumbersIfAs gives wanting failed tag given (Err e) =
    IsCause wanting failed e
    ((given ≡ Err e) ⊎ ((ns : List ℕ) × (given ≡ Ok (Some ns)) × FirstUnfit gives tag ns e))
