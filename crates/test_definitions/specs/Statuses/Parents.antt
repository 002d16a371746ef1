-- Worked examples of pages with parents: where they are placed, and at which link each is written.
use Rattle.std.specs.Prelude.{◌≡◌, [], ◌∷◌, None, Some, Ok, Err}
use Rattle.tiff_base.specs.declared.error.TiffError.TheVariants.{FormatError, IoError, OutOfMemory}
use Rattle.tiff_base.specs.declared.error.TiffFormatError.TheVariants.{CycleInOffsets, ImageFileDirectoryNotFound}
use Rattle.tiff_base.specs.declared.io.IoKind.TheVariants.{InvalidInput}
use Rattle.tiff_base.specs.declared.tags.ByteOrder.TheVariants.{LittleEndian}
use Rattle.tiff_base.specs.declared.tags.FileKind.TheVariants.{Big, Classic}
use Rattle.tiff_base.specs.declared.tags.Tag.TheVariants.{SubIfd}
use Rattle.tiff_base.specs.declared.tags.«Type».TheVariants.{IFD, IFD8}
use Rattle.tiff_ffi.specs.declared.pages.PageField.TheVariants.{Whole}
use Rattle.tiff_ffi.specs.declared.pages.Place.{Place}
use Rattle.tiff_ffi.specs.declared.pages.Refusal.{Refusal}
use Rattle.tiff_ffi.specs.Pages.{IsOutIn, all_by, both, chain_places, chained, link_step, other_job, place_of, placed, with_links, with_parent, within, write_tag_buf}

-- ---- where a page is

-- the third of three pages, and the second below its parent
abbrev third : Place
third = record { number = 3; children = 0; index = 1 }

-- mistake: `placed` puts a page with a parent into the chain
abbrev pub below : Type 0
below =
    placed third 2 (other_job ∷ [])
    ≡ Ok (with_parent (record { page = 3; parent = 2; index = 1; jobs = other_job ∷ [] }))

-- mistake: `placed` takes a page without a parent for one that has page 0
abbrev pub in_chain : Type 0
in_chain = placed third 0 (other_job ∷ []) ≡ Ok (chained 3 (other_job ∷ []))

-- mistake: `placed` takes a page that is its own parent
abbrev pub own_parent : Type 0
own_parent = placed third 3 [] ≡ Err (IoError InvalidInput)

-- mistake: `both` puts pages with parents before those that come earlier
abbrev pub in_order : Type 0
in_order =
    both (chained 1 (other_job ∷ []))
    (with_parent (record { page = 2; parent = 1; index = 0; jobs = [] }))
    ≡ record {
      numbers = 1 ∷ [];
      chain = other_job ∷ [];
      children = record { page = 2; parent = 1; index = 0; jobs = [] } ∷ [];
    }

-- ---- the tag SubIFDs

-- mistake: `link_step` makes one link for all children
abbrev pub two_links : Type 0
two_links =
    link_step Classic 2
    ≡ write_tag_buf SubIfd
    (record { order = LittleEndian; data_type = IFD; bytes = 0 ∷ 0 ∷ 0 ∷ 0 ∷ 0 ∷ 0 ∷ 0 ∷ 0 ∷ [] })

-- mistake: `link_type` is the same in BigTIFF
abbrev pub big_link : Type 0
big_link =
    link_step Big 1
    ≡ write_tag_buf SubIfd
    (record { order = LittleEndian; data_type = IFD8; bytes = 0 ∷ 0 ∷ 0 ∷ 0 ∷ 0 ∷ 0 ∷ 0 ∷ 0 ∷ [] })

-- mistake: `with_links` gives each page the tag
abbrev pub no_children : Type 0
no_children = with_links Classic 0 [] [] ≡ Ok []

abbrev pub one_child : Type 0
one_child = with_links Big 1 [] [] ≡ Ok (link_step Big 1 ∷ [])

-- ---- where a page is linked

-- mistake: `chain_places` counts pages from 0
-- of four pages, the first and the third are in the chain
abbrev pub two_chained : Type 0
two_chained = chain_places 4 (1 ∷ 3 ∷ []) (8 ∷ 50 ∷ []) ≡ 0 ∷ 8 ∷ 0 ∷ 50 ∷ 0 ∷ []

abbrev pub place_known : Type 0
place_known = place_of (0 ∷ 8 ∷ 0 ∷ []) 1 ≡ Ok 8

-- mistake: `place_of` takes a page that isn't written for a directory at 0
abbrev pub place_unknown : Type 0
place_unknown = place_of (0 ∷ 8 ∷ 0 ∷ []) 2 ≡ Err (FormatError ImageFileDirectoryNotFound)

-- a link of four bytes at the end of a file of 30 bytes, whose first 20 stay as they are
abbrev pub last_link : Type 0
last_link = within Classic 20 30 26 ≡ Ok 26

-- mistake: `within` takes a link that ends behind the file
abbrev pub past_link : Type 0
past_link = within Classic 20 30 27 ≡ Err (IoError InvalidInput)

-- mistake: `within` takes each link for one of four bytes
abbrev pub past_big_link : Type 0
past_big_link = within Big 20 30 26 ≡ Err (IoError InvalidInput)

-- mistake: `within` takes a link in the file that was there before
abbrev pub former_link : Type 0
former_link = within Classic 20 30 19 ≡ Err (IoError InvalidInput)

-- mistake: `all_by` takes a chain that ends by an error for a whole one
abbrev pub cycle : Type 0
cycle = all_by (8 ∷ []) (Some (FormatError CycleInOffsets)) ≡ Err (FormatError CycleInOffsets)

abbrev pub whole_chain : Type 0
whole_chain = all_by (8 ∷ 50 ∷ []) None ≡ Ok (8 ∷ 50 ∷ [])

-- ---- memory that is out

abbrev pub no_memory : Refusal
no_memory = record { field = Whole; fault = OutOfMemory }

-- before a page is seen, the first one is told of, also where there is none
abbrev pub out_at_the_first : Type 0
out_at_the_first = IsOutIn [] (1, no_memory)

-- mistake: `IsOutIn` tells of no page
abbrev pub out_at_none : Type 0
out_at_none = IsOutIn [] (0, no_memory) → ⊥

-- mistake: `IsOutIn` tells of a page behind the list
abbrev pub out_behind_all : Type 0
out_behind_all = IsOutIn [] (2, no_memory) → ⊥
