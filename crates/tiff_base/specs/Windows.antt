-- Windows of a file: stretches of it that a caller has in memory (this project's).
use Rattle.std.specs.List.{list_all}
use Rattle.std.specs.Prelude.{◌≡◌, ℕ, ◌+◌, ◌-◌, ◌^◌, ◌≤◌, ◌<◌, Bool, true, false, ◌&&◌, List, [], ◌∷◌, ◌++◌, length, get_or, map, fold, replicate, All, if◌then◌else◌, nat_eq, nat_le, nat_lt, Option, None, Some}
use Rattle.tiff_base.specs.SourceAndSink.{AreOctets, SourceRecord, answers_for, bytes_at}
use Rattle.tiff_base.specs.declared.windows.Stretch.{Stretch}
use Rattle.tiff_base.specs.declared.windows.Window.{Window}
use Rattle.tiff_base.specs.declared.windows.Windows.{Windows}

-- the offset behind a window
abbrev pub end_of : Window → ℕ
end_of w = w.offset + length w.bytes.now

-- A window has the bytes that a file has at its offset.
pub record IsWindowOf (file : List ℕ) (w : Window) : Type 0 where
  pub within : end_of w ≤ length file
  pub same : w.bytes.now ≡ bytes_at file w.offset (length w.bytes.now)

-- The windows have bytes of this file, and its length.
pub record AreWindowsOf (file : List ℕ) (seen : Windows) : Type 0 where
  pub len : length file ≡ seen.len
  pub octets : AreOctets file
  pub each : All (IsWindowOf file) seen.windows.now

-- what is readable of a file by windows: the stretches that they have, and what is past its end
abbrev pub seen_by : Windows → List ℕ → SourceRecord
seen_by seen file = record {
  bytes = file;
  readable = Some ((seen.len, 2 ^ 64) ∷ map (λ w. (w.offset, length w.bytes.now)) seen.windows.now);
}

-- a stretch of a file that begins with a byte which no window has
pub record IsWanted (seen : Windows) (s : Stretch) : Type 0 where
  pub some : 0 < s.len
  pub within : s.offset + s.len ≤ seen.len
  pub unseen : answers_for (seen_by seen []).readable s.offset ≡ false

-- ---- order

-- each window ends before the later ones begin
abbrev pub AreApart : List Window → Type 0
AreApart windows = (i j : ℕ) (d : Window) → i < j → j < length windows
    → end_of (get_or windows i d) ≤ (get_or windows j d).offset

-- the offset behind a window within `len` bytes that begins at or behind an offset; none for
-- another window
abbrev pub behind_window : ℕ → Option ℕ → Window → Option ℕ
behind_window len None w = None
behind_window len (Some end) w =
    if nat_lt w.offset end then None
    else if nat_lt len (end_of w) then None
    else Some (end_of w)

-- the offset behind windows within `len` bytes that follow one another; none for others
abbrev pub behind_windows : ℕ → List Window → Option ℕ
behind_windows len = fold (behind_window len) (Some 0)

-- The window with an index has the byte at an offset.
pub record HasWindowAt (windows : List Window) (at i : ℕ) : Type 0 where
  pub within : i < length windows
  pub begins : (d : Window) → (get_or windows i d).offset ≤ at
  pub ends : (d : Window) → at < end_of (get_or windows i d)

-- ---- which file the windows are of

-- whether two lists have the same numbers
abbrev pub same_bytes : List ℕ → List ℕ → Bool
same_bytes [] [] = true
same_bytes (x ∷ xs) (y ∷ ys) = nat_eq x y && same_bytes xs ys
same_bytes xs ys = false

abbrev pub is_window_of : List ℕ → Window → Bool
is_window_of file w =
    nat_le (end_of w) (length file)
    && same_bytes w.bytes.now (bytes_at file w.offset (length w.bytes.now))

-- whether the windows have bytes of this file, and its length
abbrev pub are_windows_of : List ℕ → Windows → Bool
are_windows_of file seen =
    nat_eq (length file) seen.len
    && (list_all (λ b. nat_lt b 256) file && list_all (is_window_of file) seen.windows.now)

-- a file of `len` bytes that the windows are of, from an offset on: it has zeros between them
abbrev pub filled_from : ℕ → ℕ → List Window → List ℕ
filled_from len from [] = replicate (len - from) 0
filled_from len from (w ∷ windows) =
    replicate (w.offset - from) 0 ++ (w.bytes.now ++ filled_from len (end_of w) windows)

-- this file, if the windows are of it, else one that they are of if they are in order
unfoldable pub file_of : List ℕ → Windows → List ℕ
file_of file seen =
    if are_windows_of file seen then file else filled_from seen.len 0 seen.windows.now
