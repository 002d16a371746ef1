-- The chunks of an open image.
use Rattle.std.proofs.Common.{◌≡◌, ℕ, ◌-◌, ◌*◌, ◌/◌, ◌%◌, ◌<◌, ◌≤◌, min, refl, ap, sym, ◌∙◌, arith}
use Rattle.std.proofs.Math.Nat.{div-eq_of_lt-le}
use Rattle.tiff_base.specs.declared.color.ChunkType.TheVariants.{Strip}
use Rattle.tiff_page.specs.Counts.{parts}
use Rattle.tiff_page.specs.Page.{PageRecord}
use Rattle.tiff_page.specs.Rect.{rect, chunks_of_plane}
use Rattle.tiff_encode.specs.Chunks.{chunk_rows}

-- a part covers no more than its size
pub one_part : (n size : ℕ) → 0 < n → n ≤ size → parts n size ≡ 1
one_part n size p h = div-eq_of_lt-le size (omega arith) (omega arith)

-- the rows of a strip, by the number of strips above it in its plane
pub strip_rows : (p : PageRecord) (k h d c s m : ℕ) → p.chunk_type ≡ Strip → p.chunk_width ≡ p.width
    → 0 < p.width
    → h ≡ p.chunk_height → d ≡ p.height → c ≡ chunks_of_plane p → s ≡ d - k % c * h → m ≡ min h s
    → m ≡ chunk_rows p k
unfolding rect
strip_rows p k h d c s m t w pos eh ed ec es em =
    let across : parts p.width p.chunk_width ≡ 1 =
    ap (λ n. parts p.width n) w ∙ one_part p.width p.width pos (omega arith) in
    let j : ℕ = k % chunks_of_plane p in
    let one : j ≡ j / parts p.width p.chunk_width =
    (let x : j ≡ j / 1 = omega arith in x ∙ ap (λ n. j / n) (sym across)) in
    em ∙ (λ i. min (eh i) (es i)) ∙ (λ i. min p.chunk_height (ed i - k % ec i * eh i))
    ∙ ap (λ n. min p.chunk_height (p.height - n * p.chunk_height)) one
    ∙ rw t refl
