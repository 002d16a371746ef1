-- The steps by which a list of directories grows.
use Rattle.std.proofs.Common.{◌≡◌, ℕ, suc, ◌+◌, List, [], ◌∷◌, true, Bool, Result, Ok, Err, OnOk, ap, sym, ◌∙◌, arith, fold}
use Rattle.tiff_base.specs.declared.error.TiffError.{TiffError}
use Rattle.tiff_base.specs.Directory.{directory_at}
use Rattle.tiff_base.specs.Field.{DirectoryRecord}
use Rattle.std.specs.Prelude.{if◌then◌else◌}
use Rattle.tiff_decode.specs.Machine.{Decoding}
use Rattle.tiff_pages.specs.declared.tree.DirectoryItem.{DirectoryItem}
use Rattle.tiff_pages.specs.Listed.{ListingRecord}
use Rattle.tiff_pages.specs.Tree.{Shows, below, expand, is_open, level, list_named, list_tag, pointers, with_item}
use Rattle.tiff_pages.proofs.Shown.{expand_same, level_same, named_same, ok_again, then_shows}

-- Two calls without a result.
pub both_show : {X : Type 0} (x : X) (a b c : Decoding) → Shows {X = Unit {0}} (Ok tt) a b
    → Shows (Ok x) b c → Shows {X = Unit {0}} (Ok tt) a c
both_show x a b c h k = ok_again x tt a c (then_shows tt (Ok x) a b c h k)

-- One more item is listed with what it names.
pub item_expanded : (start mid : Decoding) (depth : ℕ) (l now : ListingRecord)
    (item : DirectoryItem) (rest : List DirectoryItem) → Shows {X = Unit {0}} (Ok tt) start mid
    → now ≡ expand mid depth l item
    → fold (expand start depth) now rest ≡ fold (expand start depth) l (item ∷ rest)
item_expanded start mid depth l now item rest s h =
    ap (λ (t : ListingRecord). fold (expand start depth) t rest) (h
    ∙ expand_same (Ok tt) start mid s depth l item)

below_more : (d : Decoding) (n : ℕ) (l : ListingRecord)
    → below d (n + 1) l ≡ level d n (below d n l)
below_more d n l =
    let e : n + 1 ≡ suc n = omega (arith) in
    ap (λ (k : ℕ). below d k l) e

-- One more level is listed.
pub levelled : (start mid : Decoding) (first l given now : ListingRecord) (n : ℕ)
    (items : List DirectoryItem) → Shows {X = Unit {0}} (Ok tt) start mid → l ≡ below start n first
    → given.items ≡ [] → given.met ≡ l.met → given.left ≡ l.left → items ≡ l.items
    → now ≡ fold (expand mid n) given items → now ≡ below start (n + 1) first
levelled start mid first l given now n items s b g m f i h =
    let empty : given ≡ record l { items = [] } =
    λ k. record { items = g k; met = m k; left = f k } in
    h
    ∙ ap (λ (t : ListingRecord). fold (expand mid n) t items) empty
    ∙ ap (λ (xs : List DirectoryItem). fold (expand mid n) (record l { items = [] }) xs) i
    ∙ level_same (Ok tt) start mid s n l
    ∙ ap (level start n) b
    ∙ sym (below_more start n first)

-- What a directory names is listed behind it.
pub named_behind : {X : Type 0} (r : Result X TiffError) (old mid : Decoding) (depth : ℕ)
    (l behind new : ListingRecord) (item : DirectoryItem) (directory : DirectoryRecord)
    (read : Result DirectoryRecord TiffError) → Shows (Ok read) old mid → true ≡ is_open depth item
    → behind ≡ with_item l item
    → read ≡ directory_at old.kind old.order old.bytes item.place.0 → read ≡ Ok directory
    → OnOk r (new ≡ fold (list_tag mid directory item.place (depth
    + 1)) behind (pointers directory.entries)) → OnOk r (new ≡ expand old depth l item)
named_behind (Err e) old mid depth l behind new item directory read s o b d k h = tt
named_behind (Ok x) old mid depth l behind new item directory read s o b d k h =
    let whole : ListingRecord =
    list_named old item.place (depth + 1) (with_item l item) (directory_at old.kind old.order old.bytes item.place.0) in
    h
    ∙ named_same (Ok read) old mid s item.place (depth + 1) behind (Ok directory)
    ∙ ap (λ (t : ListingRecord). list_named old item.place (depth + 1) t (Ok directory)) b
    ∙ ap (λ (t : Result DirectoryRecord TiffError). list_named old item.place (depth
    + 1) (with_item l item) t) (sym k ∙ d)
    ∙ ap (λ (t : Bool). if t then whole else with_item l item) o
