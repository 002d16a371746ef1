-- The bytes of the samples of a page.
use Rattle.std.proofs.Common.{◌≡◌, ℕ, ◌∷◌, [], List, suc, refl, Result, Ok, Err, ap, sym, ◌∙◌}
use Rattle.std.proofs.Math.Nat.{mod-eq_of_lt}
use Rattle.std.specs.List.{flat_map}
use Rattle.tiff_base.specs.Number.{le}
use Rattle.tiff_base.specs.SourceAndSink.{AreOctets}
use Rattle.tiff_base.specs.declared.error.TiffError.{TiffError}
use Rattle.tiff_base.specs.Answers.{◌>>=◌, AnswersWithoutSource}
use Rattle.tiff_base.specs.lemmas.Causes.{cause_along}
use Rattle.tiff_ifd.specs.declared.limits.Limits.{Limits}
use Rattle.tiff_page.specs.Image.{Decoded}
use Rattle.tiff_decode.specs.Machine.{Decoding}
use Rattle.tiff_decode.specs.Opened.{opened_of}
use Rattle.tiff_decode.specs.Outcome.{seek_to_image}
use Rattle.tiff_decode.specs.Result.{bytes_of}
use Rattle.tiff_pages.specs.OfFile.{under}
use Rattle.tiffpage_lib.specs.AtPage.{AnswersUnder, in_file_under, page_decoder}
use Rattle.tiffpage_lib.specs.Samples.{page_image, sample_bytes}

-- samples of one byte are their bytes
pub octets_are : (xs : List ℕ) → AreOctets xs → flat_map (le 1) xs ≡ xs
octets_are [] o = refl
octets_are (x ∷ xs) o = (λ i. mod-eq_of_lt (o 0) i ∷ octets_are xs (λ k. o (suc k)) i)

behind_seek : {B C E : Type 0} (s : Result B TiffError) (p : Result C TiffError) (g : C → Result E TiffError)
    → ((s >>= λ _. p) >>= g) ≡ (s >>= λ _. (p >>= g))
behind_seek (Ok x) p g = refl
behind_seek (Err e) p g = refl

behind_both : {A B C E : Type 0} (d : Result A TiffError) (s : A → Result B TiffError)
    (p : A → Result C TiffError) (g : C → Result E TiffError)
    → ((d >>= λ x. s x >>= λ _. p x) >>= g) ≡ (d >>= λ x. s x >>= λ _. (p x >>= g))
behind_both (Ok x) s p g = behind_seek (s x) (p x) g
behind_both (Err e) s p g = refl

-- the bytes of a page's image are those of the image at the page
pub bytes_under : (limits : Limits) (file : List ℕ) (page : ℕ) (r : Result Decoded TiffError)
    → in_file_under page_image limits file page ≡ r
    → in_file_under sample_bytes limits file page ≡ (r >>= λ samples. Ok (bytes_of samples))
bytes_under limits file page r e =
    let bytes : Decoded → Result (List ℕ) TiffError = λ samples. Ok (bytes_of samples) in
    sym (behind_both (opened_of file 0) (λ d. (seek_to_image (under limits d) page).answer) (λ d. page_image (page_decoder (under limits d) page)) bytes)
    ∙ ap (λ x. x >>= bytes) e

-- what follows a call at a page of a file, under limits
bound : {Y Y' : Type 0} (given : Decoding → Result Y TiffError) (f : Y → Result Y' TiffError)
    (limits : Limits) (file : List ℕ) (page : ℕ)
    → in_file_under (λ d. given d >>= f) limits file page
    ≡ (in_file_under given limits file page >>= f)
bound given f limits file page =
    sym (behind_both (opened_of file 0) (λ d. (seek_to_image (under limits d) page).answer) (λ d. given (page_decoder (under limits d) page)) f)

-- an error of the call is that of what follows it
pub under_refused : {X X' Y Y' : Type 0} (view : X → Y) (view' : X' → Y')
    (given : Decoding → Result Y TiffError) (f : Y → Result Y' TiffError)
    (limits : Limits) (file : List ℕ) (page : ℕ) (e : TiffError)
    → AnswersUnder {X = X} view given limits (Err e) file page
    → AnswersUnder {X = X'} view' (λ d. given d >>= f) limits (Err e) file page
under_refused view view' given f limits file page e h =
    cause_along e (λ w. w) (λ x. x) (λ g. bound given f limits file page ∙ ap (λ y. y >>= f) g) h

-- what follows the call reads nothing more
pub under_then : {X X' Y Y' : Type 0} (view : X → Y) (view' : X' → Y')
    (given : Decoding → Result Y TiffError) (f : Y → Result Y' TiffError)
    (limits : Limits) (file : List ℕ) (page : ℕ) (x : X) (r : Result X' TiffError)
    → AnswersUnder view given limits (Ok x) file page → AnswersWithoutSource view' r (f (view x))
    → AnswersUnder view' (λ d. given d >>= f) limits r file page
under_then view view' given f limits file page x (Ok v) h t =
    bound given f limits file page ∙ ap (λ y. y >>= f) h ∙ t
under_then view view' given f limits file page x (Err e) h t =
    cause_along e (λ w. w) (λ n. absurd n) (λ g. bound given f limits file page
    ∙ ap (λ y. y >>= f) h ∙ g) t
