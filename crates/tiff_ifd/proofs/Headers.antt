-- The header of a file, where a number of it is missing.
use Rattle.std.proofs.Common.{◌≡◌, ℕ, List, Result, Ok, Err, ap, ◌∙◌}
use Rattle.std.specs.Int.{w16, w32}
use Rattle.tiff_base.specs.Answers.{◌>>=◌}
use Rattle.tiff_base.specs.Header.{Header, header_at, header_of, order_at, version_at}
use Rattle.tiff_base.specs.Number.{number_at}
use Rattle.tiff_base.specs.declared.error.TiffError.{TiffError}
use Rattle.tiff_base.specs.declared.tags.ByteOrder.{ByteOrder}
use Rattle.tiff_base.specs.declared.tags.FileKind.TheVariants.{Classic}

-- the steps of a header behind its byte order
abbrev behind_order : List ℕ → Result ByteOrder TiffError → Result Header TiffError
behind_order bytes r =
    r >>= λ order. number_at order w16 bytes 2 >>= λ version. version_at order bytes version

pub no_order : (bytes : List ℕ) (e : TiffError) → order_at bytes ≡ Err e → header_at bytes ≡ Err e
unfolding header_at
no_order bytes e h = ap (behind_order bytes) h

pub versioned : (bytes : List ℕ) (order : ByteOrder) (version : Result ℕ TiffError)
    → order_at bytes ≡ Ok order → number_at order w16 bytes 2 ≡ version
    → header_at bytes ≡ (version >>= λ n. version_at order bytes n)
unfolding header_at
versioned bytes order version h v =
    ap (behind_order bytes) h ∙ ap (λ (r : Result ℕ TiffError). r
    >>= λ n. version_at order bytes n) v

-- the end of the source in the offset of a classic file
pub classic_cut : (bytes : List ℕ) (order : ByteOrder) (version : ℕ) (e : TiffError)
    → order_at bytes ≡ Ok order → number_at order w16 bytes 2 ≡ Ok version → version ≡ 42
    → number_at order w32 bytes 4 ≡ Err e → header_at bytes ≡ Err e
classic_cut bytes order version e h v n c =
    versioned bytes order (Ok version) h v ∙ ap (version_at order bytes) n
    ∙ ap (λ (r : Result ℕ TiffError). r >>= λ first. header_of order Classic first) c
