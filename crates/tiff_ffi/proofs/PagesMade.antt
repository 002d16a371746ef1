-- The jobs of pages, made page by page, up to the first that is refused.
use Rattle.std.proofs.Common.{◌≡◌, ◌≢◌, ◌⊎◌, inl, inr, ℕ, ◌==◌, false, zero, suc, ◌+◌, ◌<◌, List, [], ◌∷◌, ◌++◌, length, map, drop, get_or, append-nil, Result, Ok, Err, refl, ap, sym, ◌∙◌, arith}
use Rattle.std.proofs.lemmas.Bool.{cases_lt, le-ltb, ne_eqb}
use Rattle.std.proofs.lemmas.List.{append_assoc, map-append}
use Rattle.std.specs.List.{list_any}
use Rattle.tiff_base.specs.declared.error.TiffError.{TiffError}
use Rattle.tiff_base.specs.declared.tags.FileKind.{FileKind}
use Rattle.tiff_encode.specs.declared.encoder.script.ImageStep.{ImageStep}
use Rattle.tiff_ffi.specs.declared.pages.NewPage.{NewPage}
use Rattle.tiff_ffi.specs.declared.pages.NewTag.{NewTag}
use Rattle.tiff_ffi.specs.declared.pages.PageField.TheVariants as field
use Rattle.tiff_ffi.specs.declared.pages.Place.{Place}
use Rattle.tiff_ffi.specs.declared.pages.Refusal.{Refusal}
use Rattle.tiff_ffi.specs.Pages.{◌>>=◌, IsOutAt, IsOutIn, PageJob, PageStep, PagesView, at_page, behind, both, in_field, jobs_from, link_step, no_jobs, page_in, page_jobs, place_in, placed, step_view, sub_ifds, with_links}

pub drop_here : {A : Type 0} (xs : List A) (i : ℕ) (d : A) → i < length xs
    → drop i xs ≡ get_or xs i d ∷ drop (i + 1) xs
drop_here [] i d h = absurd (omega arith)
drop_here (x ∷ xs) zero d h = refl
drop_here (x ∷ xs) (suc i) d h =
    let l : i < length xs = omega (arith, h) in
    let e : suc (i + 1) ≡ suc i + 1 = omega arith in
    drop_here xs i d l ∙ ap (λ (k : ℕ). get_or xs i d ∷ drop k (x ∷ xs)) e

-- ---- pages behind others

both_more : (a b c : PagesView) → both a (both b c) ≡ both (both a b) c
both_more a b c =
    let numbers = sym (append_assoc a.numbers b.numbers c.numbers) in
    let chain = sym (append_assoc a.chain b.chain c.chain) in
    let children = sym (append_assoc a.children b.children c.children) in
    λ i. record { numbers = numbers i; chain = chain i; children = children i }

pub none_behind : (a : PagesView) → both a no_jobs ≡ a
none_behind a =
    let numbers = append-nil a.numbers in
    let chain = append-nil a.chain in
    let children = append-nil a.children in
    λ i. record { numbers = numbers i; chain = chain i; children = children i }

joined : {E : Type 0} (done own : PagesView) (rest : Result PagesView E)
    → behind done (rest >>= λ others. Ok (both own others)) ≡ behind (both done own) rest
joined done own (Ok others) = ap Ok (both_more done own others)
joined done own (Err e) = refl

made : (n : ℕ) (own : Result PagesView Refusal) (rest : Result PagesView (ℕ × Refusal))
    (done next : PagesView) → behind done own ≡ Ok next
    → behind done (at_page n own >>= λ mine. rest >>= λ others. Ok (both mine others))
    ≡ behind next rest
made n (Ok own) rest done next h =
    let e : both done own ≡ next =
    cc in joined done own rest ∙ ap (λ (v : PagesView). behind v rest) e
made n (Err x) rest done next h = absurd (cc)

refused : (n : ℕ) (own : Result PagesView Refusal) (rest : Result PagesView (ℕ × Refusal))
    (done : PagesView) (e : Refusal) → behind done own ≡ Err e
    → behind done (at_page n own >>= λ mine. rest >>= λ others. Ok (both mine others)) ≡ Err (n, e)
refused n (Ok own) rest done e h = absurd (cc)
refused n (Err x) rest done e h = let i : x ≡ e = cc in ap (λ (y : Refusal). Err (n, y)) i

-- ---- the place of a page

-- A page whose parent isn't an earlier one is refused, wherever it would be in the tag SubIFDs.
placed_so : (number children index index' parent : ℕ) (jobs : List PageJob)
    → (parent < number → index ≡ index')
    → placed (record { number = number; children = children; index = index }) parent jobs
    ≡ placed (record { number = number; children = children; index = index' }) parent jobs
placed_so number children index index' parent jobs same =
    elim (cases_lt parent number) [
      | inl before ↦ ap (λ (k : ℕ). placed (record { number = number; children = children; index = k }) parent jobs) (same before)
      | inr behind ↦ (let e = le-ltb parent number behind in rw e refl)
    ]

page_by : (made : Result (List PageJob) Refusal) (number children index index' parent : ℕ)
    → (parent < number → index ≡ index')
    → (made >>= λ jobs. in_field field.Parent (placed (record { number = number; children = children; index = index }) parent jobs))
    ≡ (made >>= λ jobs. in_field field.Parent (placed (record { number = number; children = children; index = index' }) parent jobs))
page_by (Ok jobs) number children index index' parent same =
    ap (λ (r : Result PagesView TiffError). in_field field.Parent r)
    (placed_so number children index index' parent jobs same)
page_by (Err e) number children index index' parent same = refl

page_so : (kind : FileKind) (page : NewPage) (number children children' index index' : ℕ)
    → children ≡ children' → (page.parent < number → index ≡ index')
    → page_in kind (record { number = number; children = children; index = index }) page
    ≡ page_in kind (record { number = number; children = children'; index = index' }) page
page_so kind page number children children' index index' counted same =
    ap (λ (n : ℕ). page_in kind (record { number = number; children = n; index = index }) page) counted
    ∙ page_by (page_jobs kind children' page) number children' index index' page.parent same

-- ---- a page at its place

in_parent : (done : PagesView) (r : Result PagesView TiffError) (next : PagesView)
    → behind done r ≡ Ok next → behind done (in_field field.Parent r) ≡ Ok next
in_parent done (Ok v) next h = let e : both done v ≡ next = cc in ap Ok e
in_parent done (Err e) next h = absurd (cc)

not_in_parent : (done : PagesView) (r : Result PagesView TiffError) (e : TiffError)
    → behind done r ≡ Err e
    → behind done (in_field field.Parent r) ≡ Err (record { field = field.Parent; fault = e })
not_in_parent done (Ok v) e h = absurd (cc)
not_in_parent done (Err x) e h =
    let same : x ≡ e =
    cc in ap (λ (y : TiffError). Err (record { field = field.Parent; fault = y })) same

module _ (kind : FileKind) (place : Place) (page : NewPage) (done : PagesView) (own : List PageJob)
    (made : page_jobs kind place.children page ≡ Ok own) where
  by_jobs : behind done (page_in kind place page)
      ≡ behind done (in_field field.Parent (placed place page.parent own))
  by_jobs =
      ap (λ (r : Result (List PageJob) Refusal). behind done (r
      >>= λ jobs. in_field field.Parent (placed place page.parent jobs))) made

  -- The jobs of a page are put at its place, or its parent is refused.
  pub put_at : (next : PagesView) → behind done (placed place page.parent own) ≡ Ok next
      → behind done (page_in kind place page) ≡ Ok next
  put_at next h = by_jobs ∙ in_parent done (placed place page.parent own) next h

  pub not_put : (e : TiffError) → behind done (placed place page.parent own) ≡ Err e
      → behind done (page_in kind place page) ≡ Err (record { field = field.Parent; fault = e })
  not_put e h = by_jobs ∙ not_in_parent done (placed place page.parent own) e h

-- SubIFDs behind the other tags
pub links_added : (kind : FileKind) (children : ℕ) (tags : List NewTag) (steps all : List ImageStep)
    (step : ImageStep) → children ≢ 0
    → list_any (λ tag. tag.number == sub_ifds) tags ≡ false
    → step_view step ≡ link_step kind children → all ≡ steps ++ step ∷ []
    → with_links kind children tags (map step_view steps) ≡ Ok (map step_view all)
links_added kind children tags steps all step some none is added =
    let view : map step_view all ≡ map step_view steps ++ step_view step ∷ [] =
    ap (map step_view) added ∙ map-append step_view steps (step ∷ []) in
    let told : map step_view all ≡ map step_view steps ++ link_step kind children ∷ [] =
    view ∙ ap (λ (s : PageStep). map step_view steps ++ s ∷ []) is in
    let e = ne_eqb children 0 some in
    rw e (rw none (ap Ok (sym told)))

-- ---- one more page

-- `done` are the jobs of the first `i` pages, and `told` those of all pages.
module _ (kind : FileKind) (pages : List NewPage) (told : Result PagesView (ℕ × Refusal)) (i : ℕ)
    (done : PagesView)
    (left : told ≡ behind done (jobs_from kind pages (i + 1) (drop i pages))) (d : NewPage)
    (more : i < length pages) where
  abbrev Page : NewPage
  Page = get_or pages i d

  abbrev Rest : Result PagesView (ℕ × Refusal)
  Rest = jobs_from kind pages (i + 1 + 1) (drop (i + 1) pages)

  abbrev Own : Result PagesView Refusal
  Own = page_in kind (place_in pages (i + 1) Page) Page

  here : told ≡ behind done (at_page (i + 1) Own >>= λ mine. Rest
      >>= λ others. Ok (both mine others))
  here =
      left ∙ ap (λ (xs : List NewPage). behind done (jobs_from kind pages (i
      + 1) xs)) (drop_here pages i d more)

  module _ (children index : ℕ) (counted : children ≡ (place_in pages (i + 1) Page).children)
      (same : Page.parent < i + 1 → index ≡ (place_in pages (i + 1) Page).index) where
    abbrev Made : Result PagesView Refusal
    Made = page_in kind (record { number = i + 1; children = children; index = index }) Page

    so : Made ≡ Own
    so =
        page_so kind Page (i + 1) children (place_in pages (i
        + 1) Page).children index (place_in pages (i + 1) Page).index counted same

    -- The jobs of one more page are made.
    pub page_made : (next : PagesView) → behind done Made ≡ Ok next → told ≡ behind next Rest
    page_made next h =
        here ∙ made (i + 1) Own Rest done next (ap (λ (r : Result PagesView Refusal). behind done r) (sym so) ∙ h)

    -- A page is refused, or memory is out.
    pub page_refused : (e : Refusal) → IsOutAt e ⊎ (behind done Made ≡ Err e)
        → IsOutIn pages (i + 1, e) ⊎ (told ≡ Err (i + 1, e))
    page_refused e (inl out) = inl (out, (omega arith, omega (arith, more)))
    page_refused e (inr h) =
        inr (here ∙ refused (i + 1) Own Rest done e (ap (λ (r : Result PagesView Refusal). behind done r) (sym so) ∙ h))
