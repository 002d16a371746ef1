-- Numbers whose bytes are reversed twice are unchanged.
use Rattle.std.proofs.Common.{◌≡◌, ℕ, zero, suc, ◌+◌, ◌*◌, ◌/◌, ◌-◌, ◌≤◌, ◌<◌, List, ◌++◌, length, take, drop, reverse, refl, ap, sym, ◌∙◌, arith, append-nil, length-append, length-drop, []}
use Rattle.std.proofs.Math.Seq.{take-append-add, drop-append-add}
use Rattle.std.specs.List.{flat_map, range_with_len}
use Rattle.std.proofs.lemmas.List.{take_all, drop_all, take-append-le, drop-append-le, drop-drop, append_assoc, length-reverse, take_at, drop_at, take-append-drop, reverse-reverse, length-take-le}
use Rattle.std.proofs.Math.Nat.{mul_comm, mod-add-div, mul-add-div, mul-div-le, mul-le-mul_left, le_trans}
use Rattle.std.proofs.lemmas.List.Edits.{paste_all}
use Rattle.std.proofs.lemmas.Slice.{put_mid-paste}
use borrow.Rule.Slice.PartMut.{put_mid}
use Rattle.tiff_base.specs.declared.tags.ByteOrder.TheVariants.{LittleEndian, BigEndian}
use Rattle.tiff_base.specs.declared.tags.«Type».{«Type»}
use Rattle.tiff_base.specs.SourceAndSink.{bytes_at}
use Rattle.tiff_base.specs.ByteOrders.{unit_size, turned_units, turned_numbers, TurnsBack}

-- ---- the first number, and then the others

pub turned_none : (size : ℕ) (bytes : List ℕ) → turned_units size zero bytes ≡ bytes
turned_none size bytes = let z : size * zero ≡ zero = omega arith in ap (λ (n : ℕ). drop n bytes) z

units_behind : (f g : ℕ → List ℕ) (a n : ℕ) → ((i : ℕ) → f (i + 1) ≡ g i)
    → flat_map f (range_with_len (a + 1) n) ≡ flat_map g (range_with_len a n)
units_behind f g a zero h = refl
units_behind f g a (suc n) h = λ j. h a j ++ units_behind f g (a + 1) n h j

drop_next : (size i : ℕ) (bytes : List ℕ)
    → drop (size * (i + 1)) bytes ≡ drop (size * i) (drop size bytes)
drop_next size i bytes =
    let e : size * (i + 1) ≡ size + size * i = omega arith in
    ap (λ (n : ℕ). drop n bytes) e ∙ sym (drop-drop (size * i) size bytes)

turned_first : (size count : ℕ) (bytes : List ℕ)
    → turned_units size (suc count) bytes ≡ reverse (take size bytes)
    ++ turned_units size count (drop size bytes)
turned_first size count bytes =
    let z : size * 0 ≡ 0 = omega arith in
    let s : suc count ≡ count + 1 = omega arith in
    let f : ℕ → List ℕ = λ i. reverse (bytes_at bytes (size * i) size) in
    let g : ℕ → List ℕ = λ i. reverse (bytes_at (drop size bytes) (size * i) size) in
    (λ j. (reverse (take size (drop (z j) bytes))
    ++ units_behind f g 0 count (λ i. ap (λ xs. reverse (take size xs)) (drop_next size i bytes)) j)
    ++ (ap (λ (n : ℕ). drop (size * n) bytes) s ∙ drop_next size count bytes) j)
    ∙ append_assoc (reverse (take size bytes)) (flat_map g (range_with_len 0 count))
    (drop (size * count) (drop size bytes))

unit_whole : (size count : ℕ) (bytes : List ℕ) → size * suc count ≤ length bytes
    → length (reverse (take size bytes)) ≡ size
unit_whole size count bytes h =
    length-reverse (take size bytes) ∙ length-take-le size bytes (omega (arith, h))

rest_whole : (size count : ℕ) (bytes : List ℕ) → size * suc count ≤ length bytes
    → size * count ≤ length (drop size bytes)
rest_whole size count bytes h = omega (arith, h, length-drop size bytes)

pub length-turned_units : (size count : ℕ) (bytes : List ℕ) → size * count ≤ length bytes
    → length (turned_units size count bytes) ≡ length bytes
length-turned_units size zero bytes h = ap length (turned_none size bytes)
length-turned_units size (suc count) bytes h =
    ap length (turned_first size count bytes)
    ∙ length-append (reverse (take size bytes)) (turned_units size count (drop size bytes))
    ∙ omega (arith, h, unit_whole size count bytes h, length-turned_units size count (drop size bytes) (rest_whole size count bytes h), length-drop size bytes)

units_back : (size count : ℕ) (bytes : List ℕ) → size * count ≤ length bytes
    → turned_units size count (turned_units size count bytes) ≡ bytes
units_back size zero bytes h =
    turned_none size (turned_units size zero bytes) ∙ turned_none size bytes
units_back size (suc count) bytes h =
    let unit = reverse (take size bytes) in
    let rest = turned_units size count (drop size bytes) in
    ap (turned_units size (suc count)) (turned_first size count bytes)
    ∙ turned_first size count (unit ++ rest)
    ∙ ap (λ l. reverse l ++ turned_units size count (drop size (unit
    ++ rest))) (take_at unit rest size (unit_whole size count bytes h))
    ∙ ap (λ l. reverse unit ++ turned_units size count l) (drop_at unit rest size (unit_whole size count bytes h))
    ∙ ap (λ l. reverse unit ++ l) (units_back size count (drop size bytes) (rest_whole size count bytes h))
    ∙ ap (λ l. l ++ drop size bytes) (reverse-reverse (take size bytes))
    ∙ take-append-drop size bytes

whole_units : (size : ℕ) (bytes : List ℕ) → size * (length bytes / size) ≤ length bytes
whole_units size bytes = omega (arith, mod-add-div (length bytes) size)

turned_back : (type : «Type») (bytes : List ℕ)
    → turned_numbers type (turned_numbers type bytes) ≡ bytes
unfolding turned_numbers
turned_back type bytes =
    let size = unit_size type in
    ap (λ (n : ℕ). turned_units size (n / size) (turned_units size (length bytes / size) bytes))
    (length-turned_units size (length bytes / size) bytes (whole_units size bytes))
    ∙ units_back size (length bytes / size) bytes (whole_units size bytes)

pub turns_back : TurnsBack
turns_back type LittleEndian BigEndian bytes = turned_back type bytes
turns_back type BigEndian LittleEndian bytes = turned_back type bytes
turns_back type LittleEndian LittleEndian bytes = refl
turns_back type BigEndian BigEndian bytes = refl

-- ---- one more number

unit_onto : (size n : ℕ) (U rest : List ℕ) → length U ≡ size
    → take (size + n) (U ++ rest)
    ++ (reverse (take size (drop (size + n) (U ++ rest))) ++ drop (size + n + size) (U ++ rest))
    ≡ U ++ (take n rest ++ (reverse (take size (drop n rest)) ++ drop (n + size) rest))
unit_onto size n U rest e =
    let t : take (size + n) (U ++ rest) ≡ U ++ take n rest =
    ap (λ (k : ℕ). take (k + n) (U ++ rest)) (sym e) ∙ take-append-add U rest n in
    let d : drop (size + n) (U ++ rest) ≡ drop n rest =
    ap (λ (k : ℕ). drop (k + n) (U ++ rest)) (sym e) ∙ drop-append-add U rest n in
    let f : size + n + size ≡ length U + (n + size) = omega (arith, e) in
    let g : drop (size + n + size) (U ++ rest) ≡ drop (n + size) rest =
    ap (λ (k : ℕ). drop k (U ++ rest)) f ∙ drop-append-add U rest (n + size) in
    (λ i. t i ++ (reverse (take size (d i)) ++ g i))
    ∙ append_assoc U (take n rest) (reverse (take size (drop n rest)) ++ drop (n + size) rest)

-- to turn the next number after those already turned
pub turned_more : (size count : ℕ) (bytes : List ℕ) → size * suc count ≤ length bytes
    → take (count * size) (turned_units size count bytes)
    ++ (reverse (take size (drop (count * size) (turned_units size count bytes)))
    ++ drop (count * size + size) (turned_units size count bytes))
    ≡ turned_units size (suc count) bytes
turned_more size zero bytes h =
    let z : zero * size ≡ zero = omega arith in
    let y : zero * size + size ≡ size = omega arith in
    ap (λ xs. take (zero * size) xs ++ (reverse (take size (drop (zero * size) xs))
    ++ drop (zero * size + size) xs)) (turned_none size bytes)
    ∙ (λ i. take (z i) bytes ++ (reverse (take size (drop (z i) bytes)) ++ drop (y i) bytes))
    ∙ sym (turned_first size zero bytes ∙ ap (λ xs. reverse (take size bytes)
    ++ xs) (turned_none size (drop size bytes)))
turned_more size (suc count) bytes h =
    let U = reverse (take size bytes) in
    let rest = turned_units size count (drop size bytes) in
    let l : size * suc count ≤ length (drop size bytes) =
    omega (arith, h, length-drop size bytes) in
    let u : length (reverse (take size bytes)) ≡ size =
    length-reverse (take size bytes) ∙ length-take-le size bytes (omega (arith, h)) in
    let k : suc count * size ≡ size + count * size = omega arith in
    ap (λ xs. take (suc count * size) xs ++ (reverse (take size (drop (suc count * size) xs))
    ++ drop (suc count * size + size) xs)) (turned_first size count bytes)
    ∙ ap (λ (n : ℕ). take n (U ++ rest) ++ (reverse (take size (drop n (U ++ rest)))
    ++ drop (n + size) (U ++ rest))) k
    ∙ unit_onto size (count * size) U rest u
    ∙ ap (λ xs. U ++ xs) (turned_more size count (drop size bytes) l)
    ∙ sym (turned_first size (suc count) bytes)

-- one step of a loop that turns the numbers of a slice
pub next_unit : (size i : ℕ) (bytes now part : List ℕ) → i < length bytes / size
    → now ≡ turned_units size i bytes
    → part ≡ reverse (take (i * size + size - i * size) (drop (i * size) now))
    → put_mid (i * size) (i * size + size - i * size) now part ≡ turned_units size (i + 1) bytes
next_unit size i bytes now part h e p =
    let k : i * size + size - i * size ≡ size = omega arith in
    let one : suc i ≡ i + 1 = omega arith in
    let whole : size * suc i ≤ length bytes =
    le_trans (mul-le-mul_left size h) (mul-div-le (length bytes) size) in
    let zs = reverse (take size (drop (i * size) now)) in
    let q : part ≡ zs = p ∙ ap (λ (n : ℕ). reverse (take n (drop (i * size) now))) k in
    let there : size * i ≤ length bytes = omega (arith, whole) in
    let room : size ≤ length (drop (i * size) now) =
    omega (arith, whole, length-drop (i * size) now, ap length e, length-turned_units size i bytes there) in
    let len : size ≡ length zs =
    sym (length-reverse (take size (drop (i * size) now))
    ∙ length-take-le size (drop (i * size) now) room) in
    put_mid-paste (i * size) (i * size + size - i * size) now part zs size q (sym k) len
    ∙ paste_all now (i * size) zs size len
    ∙ ap (λ xs. take (i * size) xs ++ (reverse (take size (drop (i * size) xs))
    ++ drop (i * size + size) xs)) e
    ∙ turned_more size i bytes whole
    ∙ ap (λ (n : ℕ). turned_units size n bytes) one

-- the end of the loop that turns the numbers of a slice
pub last_unit : (size i : ℕ) (bytes now : List ℕ) → i ≡ length bytes / size
    → now ≡ turned_units size i bytes
    → now ≡ turned_units size (length bytes / size) bytes
last_unit size i bytes now h e = e ∙ ap (λ (n : ℕ). turned_units size n bytes) h

-- ---- many numbers at once

-- some numbers turned, and then more numbers behind them
pub turned_behind : (size a b : ℕ) (bytes : List ℕ) → size * a ≤ length bytes
    → take (a * size) (turned_units size a bytes)
    ++ turned_units size b (drop (a * size) (turned_units size a bytes))
    ≡ turned_units size (a + b) bytes
turned_behind size zero b bytes h =
    let z : zero * size ≡ zero = omega arith in
    let e : b ≡ zero + b = omega arith in
    (λ i. take (z i) (turned_units size zero bytes)
    ++ turned_units size b (drop (z i) (turned_units size zero bytes)))
    ∙ ap (turned_units size b) (turned_none size bytes)
    ∙ ap (λ (n : ℕ). turned_units size n bytes) e
turned_behind size (suc a) b bytes h =
    let U = reverse (take size bytes) in
    let rest = turned_units size a (drop size bytes) in
    let u : length (reverse (take size bytes)) ≡ size = unit_whole size a bytes h in
    let k : suc a * size ≡ size + a * size = omega arith in
    let l : suc a + b ≡ suc (a + b) = omega arith in
    let t : take (suc a * size) (U ++ rest) ≡ U ++ take (a * size) rest =
    ap (λ (n : ℕ). take n (U ++ rest)) (k ∙ ap (λ (n : ℕ). n + a * size) (sym u))
    ∙ take-append-add U rest (a * size) in
    let d : drop (suc a * size) (U ++ rest) ≡ drop (a * size) rest =
    ap (λ (n : ℕ). drop n (U ++ rest)) (k ∙ ap (λ (n : ℕ). n + a * size) (sym u))
    ∙ drop-append-add U rest (a * size) in
    ap (λ xs. take (suc a * size) xs ++ turned_units size b (drop (suc a * size) xs))
    (turned_first size a bytes)
    ∙ (λ i. t i ++ turned_units size b (d i))
    ∙ append_assoc U (take (a * size) rest) (turned_units size b (drop (a * size) rest))
    ∙ ap (λ xs. U ++ xs) (turned_behind size a b (drop size bytes) (rest_whole size a bytes h))
    ∙ sym (turned_first size (a + b) bytes)
    ∙ ap (λ (n : ℕ). turned_units size n bytes) (sym l)

-- to turn numbers of the first part alone
pub turned_in : (size count : ℕ) (xs ys : List ℕ) → length xs ≡ size * count
    → turned_units size count (xs ++ ys) ≡ turned_units size count xs ++ ys
turned_in size zero xs ys h =
    turned_none size (xs ++ ys) ∙ ap (λ l. l ++ ys) (sym (turned_none size xs))
turned_in size (suc count) xs ys h =
    let e : take size (xs ++ ys) ≡ take size xs = take-append-le size xs ys (omega (arith, h)) in
    let d : drop size (xs ++ ys) ≡ drop size xs ++ ys =
    drop-append-le size xs ys (omega (arith, h)) in
    turned_first size count (xs ++ ys)
    ∙ (λ i. reverse (e i) ++ turned_units size count (d i))
    ∙ ap (λ l. reverse (take size xs) ++ l) (turned_in size count (drop size xs) ys (omega (arith, h, length-drop size xs)))
    ∙ sym (append_assoc (reverse (take size xs)) (turned_units size count (drop size xs)) ys)
    ∙ ap (λ l. l ++ ys) (sym (turned_first size count xs))

-- one step of a loop that turns m numbers of a slice at once, L bytes of it
next_block : (size m L at k : ℕ) (bytes now part : List ℕ) → L ≡ size * m → at ≡ m * k * size
    → at + L ≤ length bytes → now ≡ turned_units size (m * k) bytes
    → part ≡ turned_units size m (take (at + L - at) (drop at now))
    → put_mid at (at + L - at) now part ≡ turned_units size (m * k + m) bytes
next_block size m L at k bytes now part whole there room e p =
    let n : at + L - at ≡ L = omega arith in
    let front : size * (m * k) ≤ length bytes = omega (arith, room, there, mul_comm size (m * k)) in
    let rest = drop at now in
    let long : length rest ≡ length bytes - at =
    length-drop at now ∙ ap (λ (j : ℕ). j - at) (ap length e
    ∙ length-turned_units size (m * k) bytes front) in
    let cut : length (take L rest) ≡ size * m =
    length-take-le L rest (omega (arith, long, room)) ∙ whole in
    let zs = turned_units size m (take L rest) in
    let q : part ≡ zs = p ∙ ap (λ (j : ℕ). turned_units size m (take j rest)) n in
    let len : L ≡ length zs =
    sym (length-turned_units size m (take L rest) (omega (arith, cut)) ∙ cut ∙ sym whole) in
    put_mid-paste at (at + L - at) now part zs L q (sym n) len
    ∙ paste_all now at zs L len
    ∙ ap (λ l. take at now ++ (zs ++ l)) (sym (drop-drop L at now
    ∙ ap (λ (j : ℕ). drop j now) (omega arith)))
    ∙ ap (λ l. take at now ++ l) (sym (turned_in size m (take L rest) (drop L rest) cut))
    ∙ ap (λ l. take at now ++ turned_units size m l) (take-append-drop L rest)
    ∙ ap (λ xs. take at xs ++ turned_units size m (drop at xs)) e
    ∙ ap (λ (j : ℕ). take j (turned_units size (m * k) bytes)
    ++ turned_units size m (drop j (turned_units size (m * k) bytes))) there
    ∙ turned_behind size (m * k) m bytes front

-- the numbers after whole blocks, turned to the end
last_block : (size m at k b : ℕ) (bytes now part : List ℕ) → at ≡ m * k * size
    → at ≤ length bytes → now ≡ turned_units size (m * k) bytes
    → part ≡ turned_units size b (take (length now - at) (drop at now))
    → put_mid at (length now - at) now part ≡ turned_units size (m * k + b) bytes
last_block size m at k b bytes now part there room e p =
    let front : size * (m * k) ≤ length bytes = omega (arith, room, there, mul_comm size (m * k)) in
    let rest = drop at now in
    let long : length rest ≡ length now - at = length-drop at now in
    let whole : take (length now - at) rest ≡ rest =
    take_all (length now - at) rest (omega (arith, long)) in
    let none : drop (length now - at) rest ≡ [] =
    drop_all (length now - at) rest (omega (arith, long)) in
    (λ i. take at now ++ (p i ++ none i))
    ∙ ap (λ l. take at now ++ (turned_units size b l ++ [])) whole
    ∙ ap (λ l. take at now ++ l) (append-nil (turned_units size b rest))
    ∙ ap (λ xs. take at xs ++ turned_units size b (drop at xs)) e
    ∙ ap (λ (j : ℕ). take j (turned_units size (m * k) bytes)
    ++ turned_units size b (drop j (turned_units size (m * k) bytes))) there
    ∙ turned_behind size (m * k) b bytes front

-- one step of a loop that turns m numbers at once, sixteen bytes of a slice
pub one_more : (size m k : ℕ) (bytes : List ℕ) {now part : List ℕ} → 16 ≡ size * m → k < length bytes / 16
    → now ≡ turned_units size (m * k) bytes
    → part ≡ turned_units size m (take (k * 16 + 16 - k * 16) (drop (k * 16) now))
    → put_mid (k * 16) (k * 16 + 16 - k * 16) now part ≡ turned_units size (m * (k + 1)) bytes
one_more size m k bytes {now} {part} whole h e p =
    let more : m * k + m ≡ m * (k + 1) = omega arith in
    let there : k * 16 ≡ m * k * size = omega (arith, ap (λ (j : ℕ). k * j) whole) in
    next_block size m 16 (k * 16) k bytes now part whole there (omega (arith, h)) e p
    ∙ ap (λ (j : ℕ). turned_units size j bytes) more

some_size : (size m : ℕ) → 16 ≡ size * m → zero < size
some_size zero m h = absurd (omega (arith, h))
some_size (suc size) m h = omega arith

-- the numbers after the last sixteen bytes, turned to the end of the slice
pub last_part : (size m k : ℕ) (bytes now part : List ℕ) → 16 ≡ size * m → length bytes / 16 ≤ k
    → k ≤ length bytes / 16 → now ≡ turned_units size (m * k) bytes
    → (let at = length bytes / 16 * 16 in
    let rest = take (length now - at) (drop at now) in
    part ≡ turned_units size (length rest / size) rest
    → put_mid at (length now - at) now part ≡ turned_units size (length bytes / size) bytes)
last_part size m k bytes now part whole above below e p =
    let at = length bytes / 16 * 16 in
    let rest = take (length now - at) (drop at now) in
    let ended : at ≡ k * 16 = omega (arith, above, below) in
    let there : at ≡ m * k * size = omega (arith, ended, ap (λ (j : ℕ). k * j) whole) in
    let same : length now ≡ length bytes =
    ap length e ∙ length-turned_units size (m * k) bytes (omega (arith, there)) in
    let long : length bytes ≡ size * (m * k) + length rest =
    omega (arith, there, same, length-drop at now, length-take-le (length now - at) (drop at now) (omega (arith, length-drop at now))) in
    let all : m * k + length rest / size ≡ length bytes / size =
    sym (ap (λ (j : ℕ). j / size) long ∙ mul-add-div (some_size size m whole) (m * k) (length rest)) in
    last_block size m at k (length rest / size) bytes now part there (omega arith) e p
    ∙ ap (λ (j : ℕ). turned_units size j bytes) all
