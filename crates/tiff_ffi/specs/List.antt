-- The pages of a file, as C gets them.
use Rattle.std.specs.Prelude.{◌≡◌, ◌⊎◌, ℕ, ◌++◌, List, drop, length, map, take, Option, None, Some, Result, Ok, Err}
use Rattle.tiff_base.specs.declared.color.ColorType.{ColorType}
use Rattle.tiff_base.specs.declared.error.TiffError.{TiffError}
use Rattle.tiff_base.specs.declared.error.TiffError.TheVariants.{OutOfMemory}
use Rattle.tiff_base.specs.Tags.{method_number}
use Rattle.tiff_pages.specs.declared.pages.PageFacts.{PageFacts}
use Rattle.tiff_pages.specs.declared.pages.PageItem.{PageItem}
use Rattle.tiff_pages.specs.Pages.{Pages}
use Rattle.tiff_ffi.specs.declared.calls.Color.{Color}
use Rattle.tiff_ffi.specs.declared.list.ListedPage.{ListedPage}
use Rattle.tiff_ffi.specs.Calls.{chunk_number, color_by}
use Rattle.tiff_ffi.specs.Status.{fault_number, status}

-- a color by its numbers; zeros for an error
abbrev pub color_told : Result ColorType TiffError → Color
color_told (Ok color) = color_by color
color_told (Err e) = record { kind = 0; bits = 0; samples = 0 }

-- a count; 0 for an error
abbrev pub count_told : Result ℕ TiffError → ℕ
count_told (Ok count) = count
count_told (Err e) = 0

-- zeros where there is no page
abbrev pub no_page : ListedPage
no_page = record {
  offset = 0;
  status = 0;
  width = 0;
  height = 0;
  method = 0;
  color_status = 0;
  color = record { kind = 0; bits = 0; samples = 0 };
  chunk_kind = 0;
  count_status = 0;
  count = 0;
}

-- a page by its numbers: its facts, or the number of its error and zeros
abbrev pub page_told : ℕ → Result PageFacts TiffError → ListedPage
page_told offset (Ok facts) = record {
  offset = offset;
  status = 0;
  width = facts.width;
  height = facts.height;
  method = method_number facts.method;
  color_status = status facts.colour;
  color = color_told facts.colour;
  chunk_kind = chunk_number facts.kind;
  count_status = status facts.chunks;
  count = count_told facts.chunks;
}
page_told offset (Err e) = record no_page { offset = offset; status = fault_number e }

abbrev pub item_told : PageItem → ListedPage
item_told item = page_told item.place.0 item.page

-- a slice with as many of these items in front as fit; what is behind them stays
abbrev pub filled : {A : Type 0} → List A → List A → List A
filled items old = take (length old) items ++ drop (length items) old

-- the number of the error by which a chain ends; 0 for none
abbrev pub end_status : Option TiffError → ℕ
end_status None = 0
end_status (Some e) = fault_number e

-- Nothing is listed, for this error, or since memory is out.
pub record ListsNone {A : Type 0} (e : TiffError) (result : ℕ) (old new : List A) (count : ℕ)
    : Type 0 where
  pub status : (result ≡ fault_number e) ⊎ (result ≡ fault_number OutOfMemory)
  pub none : count ≡ 0
  pub stays : new ≡ old

-- As many of these items as fit are listed, with how many there are; the status is that of the
-- chain's end.
pub record ListsAll {A : Type 0} (items : List A) (end : Option TiffError) (result : ℕ)
    (old new : List A) (count : ℕ) : Type 0 where
  pub status : result ≡ end_status end
  pub all : count ≡ length items
  pub listed : new ≡ filled items old

-- what the call returns and leaves: all pages, or none since memory is out; or none for the error
-- of the file
abbrev pub ListTells : Result Pages TiffError → ℕ → List ListedPage → List ListedPage → ℕ → Type 0
ListTells (Ok pages) result old new count =
    ListsAll (map item_told pages.items) pages.end result old new count
    ⊎ ListsNone OutOfMemory result old new count
ListTells (Err e) result old new count = ListsNone e result old new count
