-- The tiles of a page among its samples.
use Rattle.std.proofs.Common.{◌≡◌, ℕ, ◌==◌, ◌+◌, ◌*◌, ◌^◌, ◌<◌, ◌≤◌, Bool, true, false, List, [], ◌∷◌, drop, take, length, append-nil, Result, Ok, refl, ap, ◌∙◌, arith}
use Rattle.std.proofs.Math.Nat.{le-mul_of_pos_right, mul-le-mul_right}
use Rattle.std.specs.Prelude.{◌&&◌, not}
use Rattle.std.proofs.lemmas.Bool.{ne_eqb}
use Rattle.std.proofs.lemmas.List.{drop_all}
use Rattle.std.proofs.lemmas.List.FromFn.{length-map-range_with_len, get_or-map-range_with_len}
use Rattle.tiff_base.specs.declared.error.TiffError.{TiffError}
use Rattle.tiff_page.specs.Pixels.{tabulate}
use Rattle.tiff_ffi.specs.Pages.{PageStep, appended, are_tiles, each, pieces, tiles_of}
use Rattle.tiff_ffi.specs.declared.pages.NewPage.{NewPage}
use Rattle.tiff_ffi.specs.declared.pages.PageNames.{PageNames}
use Rattle.tiff_ffi.proofs.PagesMade.{drop_here}

-- A tile ends within the bytes of all.
pub ends_within : (i count size len : ℕ) → i < count → len ≡ count * size
    → i * size + size ≤ len
ends_within i count size len l whole =
    let next : (i + 1) * size ≤ count * size = mul-le-mul_right size (omega (arith, l)) in
    let split : (i + 1) * size ≡ i * size + size = omega arith in
    omega (arith, next, split, whole)

-- It is the next of the tiles that are left.
pub next_piece : (i count size : ℕ) (bytes : List ℕ) → i < count
    → drop i (pieces count size bytes)
    ≡ take size (drop (i * size) bytes) ∷ drop (i + 1) (pieces count size bytes)
next_piece i count size bytes l =
    let f : ℕ → List ℕ = λ k. take size (drop (k * size) bytes) in
    let none : List ℕ = [] in
    let many : length (tabulate count f) ≡ count = length-map-range_with_len f 0 count in
    drop_here (tabulate count f) i none (omega (arith, l, many))
    ∙ ap (λ (x : List ℕ). x ∷ drop (i + 1) (tabulate count f)) (get_or-map-range_with_len f 0 count i i none l (omega arith))

-- None is left behind the last.
pub no_piece : (count size : ℕ) (bytes : List ℕ) → drop count (pieces count size bytes) ≡ []
no_piece count size bytes =
    let f : ℕ → List ℕ = λ k. take size (drop (k * size) bytes) in
    drop_all count (tabulate count f) (omega (arith, length-map-range_with_len f 0 count))

-- So all are added.
pub all_added : (f : List ℕ → Result PageStep TiffError) (steps : List PageStep)
    (i count size : ℕ) (bytes : List ℕ) → i ≡ count
    → appended steps (each f (drop i (pieces count size bytes))) ≡ Ok steps
all_added f steps i count size bytes end =
    ap (λ (n : ℕ). appended steps (each f (drop n (pieces count size bytes)))) end
    ∙ ap (λ (rest : List (List ℕ)). appended steps (each f rest)) (no_piece count size bytes)
    ∙ ap Ok (append-nil steps)

none_and : (a b : Bool) → (a && b && false) ≡ false
none_and false b = refl
none_and true false = refl
none_and true true = refl

-- So many tiles have more bytes than there are.
pub too_many : (page : NewPage) (names : PageNames) → length page.samples.now < 2 ^ 64
    → 0 < page.tile_bytes → 2 ^ 64 ≤ tiles_of page names → are_tiles page names ≡ false
too_many page names short some many =
    let tiles : ℕ = tiles_of page names in
    let more : tiles ≤ tiles * page.tile_bytes = le-mul_of_pos_right tiles some in
    let other : (length page.samples.now == tiles * page.tile_bytes) ≡ false =
    ne_eqb (length page.samples.now) (tiles * page.tile_bytes) (λ e. omega (arith, e, short, many, more)) in
    ap (λ (b : Bool). not (page.tile_width == 0) && not (page.tile_length == 0) && b) other
    ∙ none_and (not (page.tile_width == 0)) (not (page.tile_length == 0))
