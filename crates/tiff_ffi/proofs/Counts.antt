-- Counts of pages by their parents.
use Rattle.std.proofs.Common.{◌≡◌, ◌≢◌, inl, inr, ℕ, Bool, ◌+◌, ◌-◌, ◌<◌, ◌≤◌, List, [], length, take, get_or, set, ap, sym, ◌∙◌, arith}
use Rattle.std.proofs.lemmas.Bool.{cases_eq, eq-eqb, ne_eqb}
use Rattle.std.proofs.lemmas.Grind.{get_or_default_zero}
use Rattle.std.proofs.lemmas.List.{get_or-set_same, get_or-set_other, length-set, length-take-le}
use Rattle.std.proofs.lemmas.List.Sums.{count_by-le-length, count_by_more_no, count_by_more_yes}
use Rattle.std.proofs.lemmas.Option.{get_or_from_slice_get, slice_get-get_or}
use Rattle.std.specs.Prelude.{◌==◌}
use Rattle.tiff_ffi.specs.declared.pages.NewPage.{NewPage}
use Rattle.tiff_ffi.specs.Pages.{count_of, place_in}
use Rattle.tiff_ffi.specs.Parents.{AreCounts, CountsBefore}

-- a page that no list has at an index
abbrev pub nothing : NewPage
nothing = record {
  color = 0;
  width = 0;
  height = 0;
  rows_per_strip = 0;
  tile_width = 0;
  tile_length = 0;
  method = 0;
  predictor = 0;
  planar = 0;
  resolution_unit = 0;
  x_resolution = record { n = 0; d = 0 };
  y_resolution = record { n = 0; d = 0 };
  extra_samples = record { ref_ptr = (0, 0); now = [] };
  tags = record { ref_ptr = (0, 0); now = [] };
  samples = record { ref_ptr = (0, 0); now = [] };
  parent = 0;
  tile_bytes = 0;
}

abbrev has_parent : ℕ → NewPage → Bool
has_parent parent page = page.parent == parent

-- a count of the first pages is at most their number
pub count_below : (pages : List NewPage) (i parent : ℕ) → i ≤ length pages
    → count_of (take i pages) parent ≤ i
count_below pages i parent within =
    let some = count_by-le-length (has_parent parent) (take i pages) in
    let size : length (take i pages) ≡ i = length-take-le i pages within in
    omega (arith, some, size)

module _ (counts : List ℕ) (pages : List NewPage) (i : ℕ) (d : NewPage) (within : i < length pages)
    (counted : AreCounts counts (take i pages)) where
  abbrev Parent : ℕ
  Parent = (get_or pages i d).parent

  another : (p : ℕ) → p ≢ Parent → count_of (take (i + 1) pages) p ≡ count_of (take i pages) p
  another p other =
      count_by_more_no (has_parent p) pages i d within (ne_eqb Parent p (λ e. other (sym e)))

  -- its parent has no count
  pub not_counted : length counts ≤ Parent → AreCounts counts (take (i + 1) pages)
  not_counted none p inside =
      counted p inside ∙ sym (another p (λ e. omega (arith, none, inside, e)))

  pub none_before : length counts ≤ Parent → CountsBefore (length counts) pages i 0
  none_before none page is below =
      let same : (get_or pages i d).parent ≡ page.parent =
      ap (λ (x : NewPage). x.parent) (get_or_from_slice_get pages i page d is) in
      absurd (omega (arith, none, below, same))

  module _ (v : ℕ) (is : v ≡ get_or counts Parent v) (here : Parent < length counts) where
    before : v ≡ count_of (take i pages) Parent
    before = is ∙ get_or_default_zero counts Parent v here ∙ counted Parent here

    pub room : v ≤ i
    room = let b = count_below pages i Parent (omega (arith, within)) in omega (arith, b, before)

    -- the count of its parent is one more
    pub one_more : AreCounts (set counts Parent (v + 1)) (take (i + 1) pages)
    one_more p inside =
        elim (cases_eq p Parent) [
          | inl same ↦ (
              let e =
              count_by_more_yes (has_parent p) pages i d within (eq-eqb Parent p (sym same)) in
              let value =
              ap (λ k. get_or (set counts Parent (v + 1)) k 0) same
              ∙ get_or-set_same counts Parent (v + 1) 0 here in
              let first = before ∙ ap (λ k. count_of (take i pages) k) (sym same) in
              omega (arith, e, value, first)
              )
          | inr other ↦ (
              let l = length-set counts Parent (v + 1) in
              get_or-set_other counts Parent p (v + 1) 0 other
              ∙ counted p (omega (arith, inside, l)) ∙ sym (another p other)
              )
        ]

    pub some_before : CountsBefore (length counts) pages i v
    some_before page at below =
        before ∙ ap (λ (x : NewPage). count_of (take i pages) x.parent)
        (get_or_from_slice_get pages i page d at)

-- the count of an earlier page's number is the index of a page at its place
pub index_so : (pages : List NewPage) (i : ℕ) (d : NewPage) (n index : ℕ) → i < length pages
    → n ≡ length pages + 1 → CountsBefore n pages i index
    → (get_or pages i d).parent < i + 1 → index ≡ (place_in pages (i + 1) (get_or pages i d)).index
index_so pages i d n index within all counts before =
    let first =
    counts (get_or pages i d) (slice_get-get_or pages i d within) (omega (arith, before, within, all)) in
    let here : i ≡ i + 1 - 1 = omega arith in
    first ∙ ap (λ k. count_of (take k pages) (get_or pages i d).parent) here
