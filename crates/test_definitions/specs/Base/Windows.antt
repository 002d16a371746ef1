-- Worked examples of windows of a file.
use Rattle.std.specs.Prelude.{◌≡◌, ℕ, List, [], ◌∷◌, None, Some, true, false}
use Rattle.tiff_base.specs.declared.windows.Stretch.{Stretch}
use Rattle.tiff_base.specs.declared.windows.Window.{Window}
use Rattle.tiff_base.specs.declared.windows.Windows.{Windows}
use Rattle.tiff_base.specs.SourceAndSink.{AreReadable}
use Rattle.tiff_base.specs.Windows.{AreApart, AreWindowsOf, IsWanted, are_windows_of, behind_windows, end_of, file_of, seen_by}

-- a window with these bytes
abbrev pub window : ℕ → List ℕ → Window
window offset bytes = record { offset = offset; bytes = record { ref_ptr = (0, 0); now = bytes } }

-- these windows of a file of five bytes
abbrev pub of_five : List Window → Windows
of_five windows = record { len = 5; windows = record { ref_ptr = (0, 0); now = windows } }

-- a file, and windows with its first two bytes and with its fourth byte
abbrev pub file : List ℕ
file = 0x0a ∷ 0x0b ∷ 0x0c ∷ 0x0d ∷ 0x0e ∷ []

abbrev pub front : Window
front = window 0 (0x0a ∷ 0x0b ∷ [])

abbrev pub fourth : Window
fourth = window 3 (0x0d ∷ [])

abbrev pub seen : Windows
seen = of_five (front ∷ fourth ∷ [])

-- mistake: `end_of` leaves out the offset
-- the offset behind windows in order, with bytes between them, without, and up to the end
abbrev pub fourth_end : Type 0
fourth_end = end_of fourth ≡ 4

abbrev pub in_order : Type 0
in_order = behind_windows 5 (front ∷ fourth ∷ []) ≡ Some 4

-- mistake: `behind_windows` refuses windows side by side
abbrev pub side_by_side : Type 0
side_by_side = behind_windows 5 (front ∷ window 2 (0x0c ∷ []) ∷ []) ≡ Some 3

-- mistake: `behind_windows` refuses one up to the end
abbrev pub to_the_end : Type 0
to_the_end = behind_windows 5 (front ∷ window 3 (0x0d ∷ 0x0e ∷ []) ∷ []) ≡ Some 5

abbrev pub no_windows : Type 0
no_windows = behind_windows 5 [] ≡ Some 0

-- windows out of order, with a byte in common, past the end, and in order behind a disorder
abbrev pub out_of_order : Type 0
out_of_order = behind_windows 5 (fourth ∷ front ∷ []) ≡ None

-- mistake: `behind_windows` accepts any order
abbrev pub overlapping : Type 0
overlapping = behind_windows 5 (front ∷ window 1 (0x0b ∷ 0x0c ∷ []) ∷ []) ≡ None

-- mistake: `behind_windows` accepts a window past the end
abbrev pub past_the_end : Type 0
past_the_end = behind_windows 5 (front ∷ window 4 (0x0e ∷ 0x0f ∷ []) ∷ []) ≡ None

-- mistake: `behind_windows` forgets a disorder
abbrev pub disorder_before : Type 0
disorder_before = behind_windows 5 (fourth ∷ front ∷ fourth ∷ []) ≡ None

-- mistake: `AreApart` wants a window behind itself
abbrev pub apart : Type 0
apart = AreApart (front ∷ fourth ∷ [])

-- mistake: `AreApart` wants a gap between windows
abbrev pub apart_side_by_side : Type 0
apart_side_by_side = AreApart (front ∷ window 2 (0x0c ∷ []) ∷ [])

abbrev pub not_apart : Type 0
not_apart = AreApart (fourth ∷ front ∷ []) → ⊥

-- mistake: `AreWindowsOf` takes the bytes at offset 0
-- the windows are of this file, and of one with another byte where no window is
abbrev pub of_file : Type 0
of_file = AreWindowsOf file seen

abbrev pub another_byte_unseen : Type 0
another_byte_unseen = AreWindowsOf (0x0a ∷ 0x0b ∷ 0xff ∷ 0x0d ∷ 0x0e ∷ []) seen

-- mistake: `AreWindowsOf` takes any bytes
-- they aren't of a file with another byte in a window, of one that is shorter, and of a list with a
-- number that is no byte
abbrev pub another_byte_seen : Type 0
another_byte_seen = AreWindowsOf (0x0a ∷ 0x0b ∷ 0x0c ∷ 0xff ∷ 0x0e ∷ []) seen → ⊥

-- mistake: `AreWindowsOf` takes a shorter file
abbrev pub of_shorter : Type 0
of_shorter = AreWindowsOf (0x0a ∷ 0x0b ∷ 0x0c ∷ 0x0d ∷ []) seen → ⊥

-- mistake: `AreWindowsOf` takes numbers that are no bytes
abbrev pub of_no_bytes : Type 0
of_no_bytes = AreWindowsOf (0x0a ∷ 0x0b ∷ 0x100 ∷ 0x0d ∷ 0x0e ∷ []) seen → ⊥

-- the same, computed
abbrev pub told_of_file : Type 0
told_of_file = are_windows_of file seen ≡ true

-- mistake: `are_windows_of` takes any bytes for the same
abbrev pub told_of_another : Type 0
told_of_another = are_windows_of (0x0a ∷ 0x0b ∷ 0x0c ∷ 0xff ∷ 0x0e ∷ []) seen ≡ false

-- mistake: `are_windows_of` takes a shorter file
abbrev pub told_of_shorter : Type 0
told_of_shorter = are_windows_of (0x0a ∷ 0x0b ∷ 0x0c ∷ 0x0d ∷ []) seen ≡ false

-- mistake: `are_windows_of` takes numbers that are no bytes
abbrev pub told_of_no_bytes : Type 0
told_of_no_bytes = are_windows_of (0x0a ∷ 0x0b ∷ 0x100 ∷ 0x0d ∷ 0x0e ∷ []) seen ≡ false

-- mistake: `file_of` never takes the given file
-- the file itself; for a list of which the windows aren't, a file with zeros between them
abbrev pub itself : Type 0
itself = file_of file seen ≡ file

-- mistake: `file_of` leaves out a gap
-- mistake: `file_of` always takes the given file
abbrev pub zeros_between : Type 0
zeros_between = file_of [] seen ≡ (0x0a ∷ 0x0b ∷ 0x00 ∷ 0x0d ∷ 0x00 ∷ [])

-- mistake: `file_of` leaves out what is behind the last window
abbrev pub zeros_alone : Type 0
zeros_alone = file_of [] (of_five []) ≡ (0x00 ∷ 0x00 ∷ 0x00 ∷ 0x00 ∷ 0x00 ∷ [])

-- what the windows have is readable, and what is past the end, but no byte between them
abbrev pub front_readable : Type 0
front_readable = AreReadable (seen_by seen file) 0 2

-- mistake: `seen_by` takes a window's length for its end
abbrev pub fourth_readable : Type 0
fourth_readable = AreReadable (seen_by seen file) 3 1

-- mistake: `seen_by` lets a byte be read behind each window
abbrev pub gap_readable : Type 0
gap_readable = AreReadable (seen_by seen file) 0 3 → ⊥

-- mistake: `seen_by` lets the last byte be read
abbrev pub end_readable : Type 0
end_readable = AreReadable (seen_by seen file) 3 2 → ⊥

-- mistake: `seen_by` lets nothing be read past the end
abbrev pub past_readable : Type 0
past_readable = AreReadable (seen_by seen file) 5 2

-- a stretch of a file
abbrev pub stretch : ℕ → ℕ → Stretch
stretch offset len = record { offset = offset; len = len }

-- bytes from one on that no window has are wanted, also on to a window behind it
abbrev pub third_wanted : Type 0
third_wanted = IsWanted seen (stretch 2 1)

-- mistake: `IsWanted` wants only bytes that are all unseen
abbrev pub third_wanted_on : Type 0
third_wanted_on = IsWanted seen (stretch 2 3)

-- mistake: `IsWanted` wants bytes from a seen one on
-- bytes from a seen one on aren't wanted, and no bytes, and none past the end
abbrev pub seen_wanted : Type 0
seen_wanted = IsWanted seen (stretch 1 2) → ⊥

-- mistake: `IsWanted` wants no bytes
abbrev pub none_wanted : Type 0
none_wanted = IsWanted seen (stretch 2 0) → ⊥

-- mistake: `IsWanted` wants bytes past the end
abbrev pub past_wanted : Type 0
past_wanted = IsWanted seen (stretch 4 2) → ⊥
