-- Parts of a file that are read one after another, and what is told of the file by them.
use Rattle.std.specs.Prelude.{◌≡◌, ◌⊎◌, ℕ, ◌+◌, ◌≤◌, ◌<◌, List, [], ◌∷◌, length, get_or, map, Result, Ok, Err}
use Rattle.std.specs.List.{insert}
use Rattle.std.specs.Result.{result_map_both}
use Rattle.tiff_base.specs.declared.error.TiffError.{TiffError}
use Rattle.tiff_base.specs.declared.error.TiffError.TheVariants.{OutOfMemory}
use Rattle.tiff_base.specs.declared.windows.Stretch.{Stretch}
use Rattle.tiff_base.specs.declared.windows.Window.{Window}
use Rattle.tiff_base.specs.declared.windows.Windows.{Windows}
use Rattle.tiff_base.specs.Windows.{AreWindowsOf}
use Rattle.tiffpage_lib.specs.declared.failure.Failure.{Failure}
use Rattle.tiffpage_lib.specs.declared.failure.Failure.TheVariants as failure
use Rattle.tiffpage_lib.specs.declared.parts.Part.{Part}
use Rattle.tiffpage_lib.specs.Files.{failure_of}
use denote.Ref.{Bor}

-- the offset of a part, and its bytes
abbrev pub Piece : Type 0
Piece = ℕ × List ℕ

abbrev pub piece : Part → Piece
piece p = (p.offset, p.bytes.items)

abbrev pub pieces : List Part → List Piece
pieces parts = map piece parts

-- the offset behind a part
abbrev pub behind : Piece → ℕ
behind p = p.0 + length p.1

abbrev pub window : Piece → Window
window p = record { offset = p.0; bytes = record { ref_ptr = (0, 0); now = p.1 } }

-- what a window has, as a part
abbrev pub seen_piece : Window → Piece
seen_piece w = (w.offset, w.bytes.now)

-- how many bytes parts have
abbrev pub total : List Piece → ℕ
total [] = 0
total (p ∷ parts) = length p.1 + total parts

-- parts of a file of `len` bytes, as windows of it
abbrev pub windows_of : ℕ → List Piece → Windows
windows_of len parts = record { len = len; windows = record { ref_ptr = (0, 0); now = map window parts } }

-- parts within `len` bytes that follow one another from an offset on
abbrev pub AreInOrder : ℕ → ℕ → List Piece → Type 0
AreInOrder len from [] = from ≤ len
AreInOrder len from (p ∷ parts) = (from ≤ p.0) × AreInOrder len (behind p) parts

-- each part that begins at an offset or before it ends there or before it
abbrev pub IsUnseen : List Piece → ℕ → Type 0
IsUnseen parts at = (k : ℕ) (d : Piece) → k < length parts → (get_or parts k d).0 ≤ at
    → behind (get_or parts k d) ≤ at

-- a stretch of a file of `len` bytes that begins with a byte which no part has
pub record IsWantedOf (len : ℕ) (parts : List Piece) (s : Stretch) : Type 0 where
  pub within : s.offset < len
  pub unseen : IsUnseen parts s.offset

-- `reads` says what a read of a part may return, with the files before and behind it
module _ {F : Type 0} (reads : F → List ℕ → ℕ → ℕ → Result (List ℕ) TiffError → F → Type 0)
    (name : List ℕ) where
  -- Reads of parts of a file gave these, the last one first.
  abbrev pub Gave : F → List Piece → F → Type 0
  Gave old [] new = new ≡ old
  Gave old (p ∷ parts) new = (mid : F) × Gave old parts mid
      × reads mid name p.0 (length p.1) (Ok p.1) new

  -- Reads of parts of a file of `len` bytes gave some; this is claimed if they are a file's.
  abbrev pub Saw : ℕ → List ℕ → Type 0 → F → F → Type 0
  Saw len file claim old new =
      (parts : List Piece) × Gave old parts new × (AreWindowsOf file (windows_of len parts) → claim)

  -- A part is read that has at least one byte, and put among others.
  pub record Fetches (before : List Piece) (old : F) (after : List Piece) (new : F) : Type 0 where
    pub part : Piece
    pub some : 0 < length part.1
    pub gave : reads old name part.0 (length part.1) (Ok part.1) new
    pub index : ℕ
    pub within : index ≤ length before
    pub put : after ≡ insert before index part

module _ {F : Type 0} (reads : F → List ℕ → ℕ → ℕ → Result (List ℕ) TiffError → F → Type 0)
    (name : Bor (List ℕ)) where
  -- A part can't be read; or memory is out for what was read.
  abbrev pub FetchFails : F → Failure → F → Type 0
  FetchFails old e new =
      ((at : ℕ) × (len : ℕ) × (fault : TiffError) × reads old name.now at len (Err fault) new
      × (e ≡ failure_of (failure.Read name) fault))
      ⊎ ((part : Piece) × reads old name.now part.0 (length part.1) (Ok part.1) new
      × (e ≡ failure.Tiff OutOfMemory))

  -- A read of a part fails, behind others.
  pub record ReadFails {A : Type 0} (old : F) (result : Result A Failure) (new : F) : Type 0 where
    pub parts : List Piece
    pub mid : F
    pub gave : Gave reads name.now old parts mid
    pub at : ℕ
    pub len : ℕ
    pub fault : TiffError
    pub fails : reads mid name.now at len (Err fault) new
    pub is : result ≡ Err (failure_of (failure.Read name) fault)

  -- Parts of a file of `len` bytes are read, and an answer is given that this file may have, if the
  -- parts are its; or a read fails.
  abbrev pub SeesBy : {A : Type 0} → ℕ → List ℕ → (Result A TiffError → Type 0) → F
      → Result A Failure → F → Type 0
  SeesBy {A} len file may old result new =
      ((answer : Result A TiffError) × Saw reads name.now len file (may answer) old new
      × (result ≡ result_map_both (λ x. x) (λ e. failure.Tiff e) answer))
      ⊎ ReadFails old result new
