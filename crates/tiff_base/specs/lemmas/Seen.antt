-- The order of windows, and the bytes that they have.
use Rattle.std.proofs.Common.{◌≡◌, ℕ, zero, suc, ◌+◌, ◌-◌, ◌^◌, ◌≤◌, ◌<◌, Bool, true, false, ◌&&◌, min, cond, List, [], ◌∷◌, ◌++◌, length, get_or, take, drop, map, fold, replicate, All, nat_eq, nat_le, nat_lt, Option, None, Some, refl, sym, ap, ◌∙◌, arith, inl, inr, subst}
use Rattle.std.proofs.lemmas.Bool.{and_from, and_left, and_parts, and_right, eq-eqb, eqb-true, false≢true, cases_lt, ltb-false, leb-true, le-leb, le-ltb, lt-leb, lt-ltb, ltb-true, or_from, or_left, or_right}
use Rattle.std.proofs.lemmas.List.{drop-drop, drop-take, get_or_append_left, get_or-append_right, get_or_default, length-append, length-replicate, take-take}
use Rattle.std.proofs.lemmas.List.Sums.{AllPass-from_list_all, list_all-from_AllPass}
use Rattle.std.proofs.Math.ListN.{get_or-eq_default}
use Rattle.std.proofs.Math.Seq.{drop-append_seam, take-append_seam, drop-append-add}
use Rattle.std.specs.List.{list_all, list_any}
use Rattle.std.specs.Option.{is_some}
use Rattle.std.specs.List.Sorted.{IsPartitionPoint, IsPartitionedBy}
use Rattle.tiff_base.specs.SourceAndSink.{AreOctets, AreReadable, Reads, answers_for, bytes_at}
use Rattle.tiff_base.specs.declared.windows.Window.{Window}
use Rattle.tiff_base.specs.declared.windows.Windows.{Windows}
use Rattle.tiff_base.specs.Windows.{AreApart, AreWindowsOf, HasWindowAt, IsWindowOf, behind_window, are_windows_of, behind_windows, end_of, file_of, filled_from, is_window_of, same_bytes, seen_by}

-- ---- order

-- windows within `len` bytes that follow one another from an offset on
abbrev pub InOrder : ℕ → ℕ → List Window → Type 0
InOrder len from [] = from ≤ len
InOrder len from (w ∷ windows) = (from ≤ w.offset) × InOrder len (end_of w) windows

refused : (len : ℕ) (windows : List Window) → fold (behind_window len) None windows ≡ None
refused len [] = refl
refused len (w ∷ windows) = refused len windows

abbrev IsNone : Option ℕ → Type 0
IsNone None = Unit {0}
IsNone (Some n) = ⊥

some_for_none : (end : ℕ) → None ≡ Some end → ⊥
some_for_none end e = subst IsNone e tt

in_order_by : (len from end : ℕ) (w : Window) (windows : List Window) (b c : Bool)
    → nat_lt w.offset from ≡ b → nat_lt len (end_of w) ≡ c
    → fold (behind_window len) (cond b None (cond c None (Some (end_of w)))) windows ≡ Some end
    → ((at : ℕ) → at ≤ len → fold (behind_window len) (Some at) windows ≡ Some end
    → InOrder len at windows)
    → InOrder len from (w ∷ windows)
in_order_by len from end w windows true c u v e rest =
    absurd (some_for_none end (sym (refused len windows) ∙ e))
in_order_by len from end w windows false true u v e rest =
    absurd (some_for_none end (sym (refused len windows) ∙ e))
in_order_by len from end w windows false false u v e rest =
    (ltb-false w.offset from u, rest (end_of w) (ltb-false len (end_of w) v) e)

pub in_order : (len from end : ℕ) (windows : List Window) → from ≤ len
    → fold (behind_window len) (Some from) windows ≡ Some end
    → InOrder len from windows
in_order len from end [] h e = h
in_order len from end (w ∷ windows) h e =
    in_order_by len from end w windows (nat_lt w.offset from) (nat_lt len (end_of w)) refl refl e
    (λ at l f. in_order len at end windows l f)

-- each of them begins from that offset on, and ends within the file
begins : (len from : ℕ) (windows : List Window) (j : ℕ) (d : Window) → InOrder len from windows
    → j < length windows → from ≤ (get_or windows j d).offset
begins len from [] j d h l = absurd (omega (arith, l))
begins len from (w ∷ windows) zero d h l = h.0
begins len from (w ∷ windows) (suc j) d h l =
    omega (arith, h.0, begins len (end_of w) windows j d h.1 (omega (arith, l)))

pub apart : (len from : ℕ) (windows : List Window) → InOrder len from windows → AreApart windows
apart len from [] h i j d l m = absurd (omega (arith, m))
apart len from (w ∷ windows) h i zero d l m = absurd (omega (arith, l))
apart len from (w ∷ windows) h zero (suc j) d l m =
    begins len (end_of w) windows j d h.1 (omega (arith, m))
apart len from (w ∷ windows) h (suc i) (suc j) d l m =
    apart len (end_of w) windows h.1 i j d (omega (arith, l)) (omega (arith, m))

-- windows that begin at an offset or before it come first
pub parted : (windows : List Window) (at : ℕ) → AreApart windows
    → IsPartitionedBy (λ (w : Window). nat_le w.offset at) windows
parted windows at h i j d l m e =
    elim (cases_lt i j) [
      | inl below ↦
          le-leb (get_or windows i d).offset at (omega (arith, h i j d below m, leb-true (get_or windows j d).offset at e))
      | inr same ↦ (let k : i ≡ j = omega (arith, l, same) in subst (λ n. nat_le (get_or windows n d).offset at ≡ true) (sym k) e)
    ]

-- ---- a file that the windows are of

length_of : (len from : ℕ) (windows : List Window) → InOrder len from windows
    → from + length (filled_from len from windows) ≡ len
length_of len from [] h = omega (arith, h, length-replicate {A = ℕ} (len - from) 0)
length_of len from (w ∷ windows) h =
    let rest : end_of w + length (filled_from len (end_of w) windows) ≡ len =
    length_of len (end_of w) windows h.1 in
    let gap : length (replicate (w.offset - from) 0) ≡ w.offset - from =
    length-replicate {A = ℕ} (w.offset - from) 0 in
    omega (
      arith,
      h.0,
      rest,
      gap,
      length-append (replicate (w.offset - from) 0) (w.bytes.now
          ++ filled_from len (end_of w) windows),
      length-append w.bytes.now (filled_from len (end_of w) windows),
    )

-- a window has the bytes of a list that begins at an offset of its file
abbrev HasBytes : List ℕ → ℕ → Window → Type 0
HasBytes bytes from w = w.bytes.now ≡ bytes_at bytes (w.offset - from) (length w.bytes.now)

first_has : (len from : ℕ) (w : Window) (windows : List Window)
    → HasBytes (filled_from len from (w ∷ windows)) from w
first_has len from w windows =
    let zeros : List ℕ = replicate (w.offset - from) 0 in
    let rest : List ℕ = filled_from len (end_of w) windows in
    let gap : length zeros ≡ w.offset - from = length-replicate {A = ℕ} (w.offset - from) 0 in
    sym (take-append_seam w.bytes.now rest)
    ∙ ap (take (length w.bytes.now)) (sym (drop-append_seam zeros (w.bytes.now ++ rest)))
    ∙ ap (λ n. take (length w.bytes.now) (drop n (zeros ++ (w.bytes.now ++ rest)))) gap

later_has : (len from : ℕ) (w : Window) (windows : List Window) (v : Window) → from ≤ w.offset
    → end_of w ≤ v.offset
    → HasBytes (filled_from len (end_of w) windows) (end_of w) v
    → HasBytes (filled_from len from (w ∷ windows)) from v
later_has len from w windows v h l e =
    let zeros : List ℕ = replicate (w.offset - from) 0 in
    let rest : List ℕ = filled_from len (end_of w) windows in
    let gap : length zeros ≡ w.offset - from = length-replicate {A = ℕ} (w.offset - from) 0 in
    let n : ℕ = v.offset - end_of w in
    let sum : length zeros + (length w.bytes.now + n) ≡ v.offset - from =
    omega (arith, gap, h, l) in
    e
    ∙ ap (take (length v.bytes.now)) (sym (drop-append-add w.bytes.now rest n)
    ∙ sym (drop-append-add zeros (w.bytes.now ++ rest) (length w.bytes.now + n)))
    ∙ ap (λ k. take (length v.bytes.now) (drop k (zeros ++ (w.bytes.now ++ rest)))) sum

each_has : (len from : ℕ) (windows : List Window) → InOrder len from windows
    → All (HasBytes (filled_from len from windows) from) windows
each_has len from [] h k d l = absurd (omega (arith, l))
each_has len from (w ∷ windows) h zero d l = first_has len from w windows
each_has len from (w ∷ windows) h (suc k) d l =
    later_has len from w windows (get_or windows k d) h.0 (begins len (end_of w) windows k d h.1 (omega (arith, l)))
    (each_has len (end_of w) windows h.1 k d (omega (arith, l)))

ends : (len from : ℕ) (windows : List Window) (j : ℕ) (d : Window) → InOrder len from windows
    → j < length windows → end_of (get_or windows j d) ≤ len
ends len from [] j d h l = absurd (omega (arith, l))
ends len from (w ∷ windows) zero d h l = omega (arith, length_of len (end_of w) windows h.1)
ends len from (w ∷ windows) (suc j) d h l = ends len (end_of w) windows j d h.1 (omega (arith, l))

zeros_fit : (n : ℕ) → AreOctets (replicate n 0)
zeros_fit zero k = omega arith
zeros_fit (suc n) zero = omega arith
zeros_fit (suc n) (suc k) = zeros_fit n k

both_fit : (xs ys : List ℕ) → AreOctets xs → AreOctets ys → AreOctets (xs ++ ys)
both_fit xs ys f g k =
    elim (cases_lt k (length xs)) [
      | inl below ↦ omega (arith, get_or_append_left xs ys 0 k below, f k)
      | inr above ↦ omega (arith, get_or-append_right xs ys (length xs) k 0 refl above, g (k - length xs))
    ]

-- all bytes of the windows fit a byte
abbrev pub HaveOctets : List Window → Type 0
HaveOctets windows = All (λ (w : Window). AreOctets w.bytes.now) windows

octets_of : (len from : ℕ) (windows : List Window) → HaveOctets windows
    → AreOctets (filled_from len from windows)
octets_of len from [] h = zeros_fit (len - from)
octets_of len from (w ∷ windows) h =
    both_fit (replicate (w.offset - from) 0) (w.bytes.now
    ++ filled_from len (end_of w) windows) (zeros_fit (w.offset - from))
    (both_fit w.bytes.now (filled_from len (end_of w) windows) (h 0 w (omega arith))
    (octets_of len (end_of w) windows (λ k d l. h (suc k) d (omega (arith, l)))))

from_zero : (bytes : List ℕ) (w : Window) → HasBytes bytes 0 w
    → w.bytes.now ≡ bytes_at bytes w.offset (length w.bytes.now)
from_zero bytes w h = h ∙ ap (λ n. bytes_at bytes n (length w.bytes.now)) (omega arith)

-- windows in order are those of a file
filled : (end : ℕ) (seen : Windows) → behind_windows seen.len seen.windows.now ≡ Some end
    → HaveOctets seen.windows.now
    → AreWindowsOf (filled_from seen.len 0 seen.windows.now) seen
filled end seen e h =
    let windows : List Window = seen.windows.now in
    let order : InOrder seen.len 0 windows = in_order seen.len 0 end windows (omega arith) e in
    let size : length (filled_from seen.len 0 windows) ≡ seen.len =
    omega (arith, length_of seen.len 0 windows order) in
    record {
      len = size;
      octets = octets_of seen.len 0 windows h;
      each = λ k d l. record {
        within = omega (arith, size, ends seen.len 0 windows k d order l);
        same =
            from_zero (filled_from seen.len 0 windows) (get_or windows k d)
            (each_has seen.len 0 windows order k d l);
      };
    }

-- windows that have an offset behind them are apart
pub apart_if : (seen : Windows) (b : Option ℕ) → b ≡ behind_windows seen.len seen.windows.now
    → is_some b ≡ true → AreApart seen.windows.now
apart_if seen None e h = absurd (false≢true h)
apart_if seen (Some end) e h =
    apart seen.len 0 seen.windows.now (in_order seen.len 0 end seen.windows.now (omega arith) (sym e))

-- ---- reading

-- what is read of a window is read of its file
pub read_seen : (bytes : List ℕ) (w : Window) (at : ℕ) (old : List ℕ) (n : ℕ) (new : List ℕ)
    → IsWindowOf bytes w → w.offset ≤ at → at < end_of w
    → Reads w.bytes.now (at - w.offset) old n new → Reads bytes at old n new
read_seen bytes w at old n new h l m r =
    let k : ℕ = at - w.offset in
    let size : ℕ = length w.bytes.now in
    let sum : w.offset + k ≡ at = omega (arith, l) in
    let split : size ≡ k + (size - k) = omega (arith, l, m) in
    let first : drop k w.bytes.now ≡ take (size - k) (drop at bytes) =
    ap (drop k) (h.same ∙ ap (λ s. take s (drop w.offset bytes)) split)
    ∙ drop-take k (size - k) (drop w.offset bytes)
    ∙ ap (take (size - k)) (drop-drop k w.offset bytes
    ∙ ap (λ s. drop s bytes) (omega (arith, sum))) in
    let short : n ≤ size - k = r.in_bytes in
    record {
      in_buffer = r.in_buffer;
      in_bytes = omega (arith, short, h.within, l, m);
      some = λ a b. r.some a (omega (arith, l, m));
      next =
          r.next ∙ ap (λ xs. xs ++ drop n old) (ap (take n) first
          ∙ take-take n (size - k) (drop at bytes) short);
    }

-- ---- which window has a byte

abbrev has : ℕ → ℕ × ℕ → Bool
has at s = nat_le s.0 at && nat_lt at (s.0 + s.1)

abbrev stretch : Window → ℕ × ℕ
stretch w = (w.offset, length w.bytes.now)

none_has : (windows : List Window) (at : ℕ)
    → All (λ (w : Window). has at (stretch w) ≡ false) windows
    → list_any (has at) (map stretch windows) ≡ false
none_has [] at h = refl
none_has (w ∷ windows) at h =
    or_from (has at (stretch w)) (list_any (has at) (map stretch windows)) (h 0 w (omega arith))
    (none_has windows at (λ k d l. h (suc k) d (omega (arith, l))))

ends_before : (w : Window) (at : ℕ) → end_of w ≤ at → has at (stretch w) ≡ false
ends_before w at h = and_right (nat_le w.offset at) (nat_lt at (end_of w)) (le-ltb at (end_of w) h)

begins_behind : (w : Window) (at : ℕ) → nat_le w.offset at ≡ false → has at (stretch w) ≡ false
begins_behind w at h = and_left (nat_le w.offset at) (nat_lt at (end_of w)) h

-- the last window that begins at an offset or before it ends there or before it, so no window has
-- its byte
pub nowhere : (seen : Windows) (at count : ℕ) → AreApart seen.windows.now → at < seen.len
    → IsPartitionPoint (λ (w : Window). nat_le w.offset at
    ≡ true) (λ (w : Window). nat_le w.offset at ≡ false) seen.windows.now count
    → count ≤ length seen.windows.now
    → ((d : Window) → 0 < count → end_of (get_or seen.windows.now (count - 1) d) ≤ at)
    → answers_for (seen_by seen []).readable at ≡ false
unfolding answers_for
nowhere seen at count h inside p c l =
    let windows : List Window = seen.windows.now in
    let past : has at (seen.len, 2 ^ 64) ≡ false =
    and_left (nat_le seen.len at) (nat_lt at (seen.len + 2 ^ 64)) (lt-leb seen.len at inside) in
    or_from (has at (seen.len, 2 ^ 64)) (list_any (has at) (map stretch windows)) past
    (none_has windows at (λ k d m. elim (cases_lt k count) [
      | inr behind ↦ begins_behind (get_or windows k d) at (p.1 k d behind m)
      | inl before ↦ ends_before (get_or windows k d) at (elim (cases_lt k (count - 1)) [
        | inl earlier ↦
            (let a = h k (count - 1) d earlier (omega (arith, before, c)) in
            let b =
            leb-true (get_or windows (count - 1) d).offset at (p.0 (count - 1) d (omega arith) (omega (arith, before))) in
            omega (arith, a, b))
        | inr last ↦ (let e : count - 1 ≡ k = omega (arith, before, last) in subst (λ n. end_of (get_or windows n d) ≤ at) e (l d (omega (arith, before))))
      ])
    ]))

-- what an index past the end reads
abbrev pub no_window : Window
no_window = record { offset = 0; bytes = record { ref_ptr = (0, 0); now = [] } }

-- a window by its index, whatever stands for one past the end
pub window_ends : (windows : List Window) (i at : ℕ) (d : Window) → i < length windows
    → end_of (get_or windows i no_window) ≤ at → end_of (get_or windows i d) ≤ at
window_ends windows i at d l h =
    subst (λ w. end_of w ≤ at) (get_or_default windows i no_window d l) h

-- a window has its bytes
some_has : (windows : List Window) (i k : ℕ) (d : Window) → i < length windows
    → (get_or windows i d).offset ≤ k → k < end_of (get_or windows i d)
    → list_any (has k) (map stretch windows) ≡ true
some_has [] i k d l a b = absurd (omega (arith, l))
some_has (w ∷ windows) zero k d l a b =
    or_left (has k (stretch w)) (list_any (has k) (map stretch windows))
    (and_from (nat_le w.offset k) (nat_lt k (end_of w)) (le-leb w.offset k a) (lt-ltb k (end_of w) b))
some_has (w ∷ windows) (suc i) k d l a b =
    or_right (has k (stretch w)) (list_any (has k) (map stretch windows))
    (some_has windows i k d (omega (arith, l)) a b)

-- the bytes before an offset can be read
abbrev pub FrontSeen : Windows → ℕ → Type 0
FrontSeen seen at = (k : ℕ) → k < at → answers_for (seen_by seen []).readable k ≡ true

pub front_grows : (seen : Windows) (at i : ℕ) → FrontSeen seen at
    → HasWindowAt seen.windows.now at i
    → (end : ℕ) → end ≤ end_of (get_or seen.windows.now i no_window) → FrontSeen seen end
unfolding answers_for
front_grows seen at i h w end e k l = elim (cases_lt k at) [
  | inl before ↦ h k before
  | inr behind ↦
      or_right (has k (seen.len, 2 ^ 64)) (list_any (has k) (map stretch seen.windows.now))
      (some_has seen.windows.now i k no_window w.within (omega (arith, behind, w.begins no_window)) (omega (arith, l, e)))
]

pub front_seen : (seen : Windows) (len at : ℕ) → len < 2 ^ 64 → FrontSeen seen at
    → min len seen.len ≤ at
    → (file : List ℕ) → AreReadable (seen_by seen file) 0 len
unfolding answers_for
front_seen seen len at fit h l file k low high = elim (cases_lt k at) [
  | inl before ↦ h k before
  | inr behind ↦
      or_left (has k (seen.len, 2 ^ 64)) (list_any (has k) (map stretch seen.windows.now))
      (and_from (nat_le seen.len k) (nat_lt k (seen.len
      + 2 ^ 64)) (le-leb seen.len k (omega (arith, behind, l, high))) (lt-ltb k (seen.len + 2 ^ 64) (omega (arith, high, fit))))
]

-- ---- which file the windows are of

same : (xs ys : List ℕ) → same_bytes xs ys ≡ true → xs ≡ ys
same [] [] h = refl
same [] (y ∷ ys) h = absurd (false≢true h)
same (x ∷ xs) [] h = absurd (false≢true h)
same (x ∷ xs) (y ∷ ys) h =
    let p =
    and_parts (nat_eq x y) (same_bytes xs ys) h in λ i. eqb-true x y p.0 i ∷ same xs ys p.1 i

same_self : (xs : List ℕ) → same_bytes xs xs ≡ true
same_self [] = refl
same_self (x ∷ xs) = and_from (nat_eq x x) (same_bytes xs xs) (eq-eqb x x refl) (same_self xs)

is_window : (bytes : List ℕ) (w : Window) → is_window_of bytes w ≡ true → IsWindowOf bytes w
is_window bytes w h =
    let p =
    and_parts (nat_le (end_of w) (length bytes)) (same_bytes w.bytes.now (bytes_at bytes w.offset (length w.bytes.now))) h in
    record {
      within = leb-true (end_of w) (length bytes) p.0;
      same = same w.bytes.now (bytes_at bytes w.offset (length w.bytes.now)) p.1;
    }

from_window : (bytes : List ℕ) (w : Window) → IsWindowOf bytes w → is_window_of bytes w ≡ true
from_window bytes w h =
    and_from (nat_le (end_of w) (length bytes)) (same_bytes w.bytes.now (bytes_at bytes w.offset (length w.bytes.now)))
    (le-leb (end_of w) (length bytes) h.within)
    (subst (λ xs. same_bytes w.bytes.now xs ≡ true) h.same (same_self w.bytes.now))

octets_in : (bytes : List ℕ) → list_all (λ b. nat_lt b 256) bytes ≡ true → AreOctets bytes
octets_in bytes h k =
    elim (cases_lt k (length bytes)) [
      | inl below ↦ ltb-true (get_or bytes k 0) 256 (AllPass-from_list_all (λ b. nat_lt b 256) bytes h k 0 below)
      | inr past ↦ omega (arith, get_or-eq_default bytes 0 past)
    ]

are_windows : (file : List ℕ) (seen : Windows) → are_windows_of file seen ≡ true
    → AreWindowsOf file seen
are_windows file seen h =
    let octets : Bool = list_all (λ b. nat_lt b 256) file in
    let each : Bool = list_all (is_window_of file) seen.windows.now in
    let p = and_parts (nat_eq (length file) seen.len) (octets && each) h in
    let q = and_parts octets each p.1 in
    record {
      len = eqb-true (length file) seen.len p.0;
      octets = octets_in file q.0;
      each =
          λ k d l. is_window file (get_or seen.windows.now k d) (AllPass-from_list_all (is_window_of file) seen.windows.now q.1 k d l);
    }

from_windows : (file : List ℕ) (seen : Windows) → AreWindowsOf file seen
    → are_windows_of file seen ≡ true
from_windows file seen h =
    and_from (nat_eq (length file) seen.len) (list_all (λ b. nat_lt b 256) file && list_all (is_window_of file) seen.windows.now)
    (eq-eqb (length file) seen.len h.len)
    (and_from (list_all (λ b. nat_lt b 256) file) (list_all (is_window_of file) seen.windows.now)
    (list_all-from_AllPass (λ b. nat_lt b 256) file (λ k d l. lt-ltb (get_or file k d) 256 (omega (arith, h.octets k, get_or_default file k d 0 l))))
    (list_all-from_AllPass (is_window_of file) seen.windows.now (λ k d l. from_window file (get_or seen.windows.now k d) (h.each k d l))))

-- the file of windows that have a file is that file
pub same_file : (file : List ℕ) (seen : Windows) → AreWindowsOf file seen → file_of file seen ≡ file
unfolding file_of
same_file file seen h =
    ap (λ b. cond b file (filled_from seen.len 0 seen.windows.now)) (from_windows file seen h)

file_by : (file : List ℕ) (end : ℕ) (seen : Windows) (b : Bool) → are_windows_of file seen ≡ b
    → behind_windows seen.len seen.windows.now ≡ Some end
    → HaveOctets seen.windows.now
    → AreWindowsOf (cond b file (filled_from seen.len 0 seen.windows.now)) seen
file_by file end seen true h e o = are_windows file seen h
file_by file end seen false h e o = filled end seen e o

-- windows in order are those of their file
of_their_file : (end : ℕ) (seen : Windows) → behind_windows seen.len seen.windows.now ≡ Some end
    → HaveOctets seen.windows.now
    → (file : List ℕ) → AreWindowsOf (file_of file seen) seen
unfolding file_of
of_their_file end seen e o file = file_by file end seen (are_windows_of file seen) refl e o

pub of_their_file_if : (seen : Windows) (b : Option ℕ)
    → b ≡ behind_windows seen.len seen.windows.now → is_some b ≡ true → HaveOctets seen.windows.now
    → (file : List ℕ) → AreWindowsOf (file_of file seen) seen
of_their_file_if seen None e h o = absurd (false≢true h)
of_their_file_if seen (Some end) e h o = of_their_file end seen (sym e) o
