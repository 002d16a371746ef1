-- What a call that stores bytes by a method does to its writer.
use Rattle.std.specs.Prelude.{◌≡◌, ℕ, ◌⊎◌, Bool, true, false, List, Some, None, Result, MatchResult}
use Rattle.tiff_base.specs.declared.error.TiffError.{TiffError}
use Rattle.tiff_base.specs.declared.error.TiffError.TheVariants.{OutOfMemory}
use Rattle.tiff_base.specs.declared.tags.CompressionMethod.{CompressionMethod}
use Rattle.tiff_base.specs.declared.tags.CompressionMethod.TheVariants as method
use Rattle.tiff_value.specs.Packed.{IsStored, store_fault}
use Rattle.tiff_value.specs.Written.{Written, writer_after_counted, IsStopped, IsCut}

-- whether a method allocates memory to store bytes
abbrev pub takes_memory : CompressionMethod → Bool
takes_memory method.PackBits = true
takes_memory method = false

-- The stored form of the bytes is written at the writer's offset.
pub record StoresAll (method : CompressionMethod) (bytes : List ℕ) (old new : Written) : Type 0
  where
    pub fresh : old.fault ≡ None
    pub storable : store_fault method bytes ≡ None
    pub stored : List ℕ
    pub stands : IsStored method stored bytes
    pub state : new ≡ writer_after_counted old stored

-- The bytes can't be stored: nothing is done.
pub record StoresNone (method : CompressionMethod) (bytes : List ℕ) (e : TiffError)
    (old new : Written) : Type 0 where
  pub fresh : old.fault ≡ None
  pub fault : store_fault method bytes ≡ Some e
  pub same : new ≡ old

-- There is no memory to store the bytes: nothing is done.
pub record StoreWants (method : CompressionMethod) (bytes : List ℕ) (e : TiffError)
    (old new : Written) : Type 0 where
  pub fresh : old.fault ≡ None
  pub storable : store_fault method bytes ≡ None
  pub takes : takes_memory method ≡ true
  pub answer : e ≡ OutOfMemory
  pub same : new ≡ old

-- The sink fails during the write of the stored form: a part of it, from the front, is written, and
-- nothing after it.
pub record StoreIsCut (method : CompressionMethod) (bytes : List ℕ) (e : TiffError)
    (old new : Written) : Type 0 where
  pub storable : store_fault method bytes ≡ None
  pub stored : List ℕ
  pub stands : IsStored method stored bytes
  pub cut : IsCut stored e old new

-- The error of bytes that are not stored, by the first cause that holds: an earlier write failed;
-- the bytes can't be stored; there is no memory, if the method allocates; the sink fails.
abbrev pub StoreFails : CompressionMethod → List ℕ → TiffError → Written → Written → Type 0
StoreFails method bytes e old new =
    IsStopped e old new
    ⊎ (StoresNone method bytes e old new
    ⊎ (StoreWants method bytes e old new ⊎ StoreIsCut method bytes e old new))

-- The bytes are stored by a method, and the call returns the length of their stored form; or the
-- call returns an error.
abbrev pub Stores : CompressionMethod → List ℕ → Written → Written → Result ℕ TiffError → Type 0
Stores method bytes old new result =
    MatchResult result (λ n. StoresAll method bytes old new
    × (n ≡ new.last)) (λ e. StoreFails method bytes e old new)

-- The bytes are stored by a method, and the call returns no length; or the call returns an error.
abbrev pub StoresBytes : {A : Type 0} → CompressionMethod → List ℕ → Written → Written
    → Result A TiffError → Type 0
StoresBytes method bytes old new result =
    MatchResult result (λ _. StoresAll method bytes old new)
    (λ e. StoreFails method bytes e old new)
