-- A value is written in the room that was made for its entry.
use Rattle.std.proofs.Common.{◌≡◌, ℕ, Bool, true, false, cond, Option, Some, None, Result, Ok, Err, refl, ap, sym, ◌∙◌, subst, arith}
use Rattle.std.proofs.lemmas.Bool.Decides.{nat_tests}
use Rattle.std.specs.Cmp.{nat_cmp_total}
use Rattle.std.specs.FinMap.{FinMap, get, contains_key, insert, remove, get-insert, get-remove, same_map, nat_cmp-IsAntisymmetric}
use Rattle.std.specs.Option.{is_some}
use Rattle.std.specs.Ordering.{nat_cmp, is_eq}
use Rattle.std.specs.Prelude.{IfOk, OnErr}
use Rattle.tiff_base.specs.declared.error.TiffError.{TiffError}
use Rattle.tiff_base.specs.declared.tags.Tag.{Tag}
use Rattle.tiff_base.specs.Field.{Field}
use Rattle.tiff_base.specs.Tags.{tag_number}
use Rattle.tiff_encode.specs.declared.encoder.directory.state.Room.{Room}
use Rattle.tiff_encode.specs.declared.encoder.directory.state.Room.TheVariants.{Taken, Held, Missing}
use Rattle.tiff_encode.specs.Calls.{with_field, without_field}
use Rattle.tiff_encode.specs.Ends.{EndsAsDefined, Ends}
use Rattle.tiff_encode.specs.Leaves.{Leaves}
use Rattle.tiff_encode.specs.Machine.{FileState, OpenDirectory}
use Rattle.tiff_value.specs.Model.{Model, FileContains}
use Rattle.tiff_encode.specs.Rooms.{blank_field, with_room, IsRoomFor, is_made, IsSettled, StaysUnlessCut, IsInRoom}
use Rattle.tiff_encode.proofs.DirectoryMoves.{tag_kept}
use Rattle.tiff_encode.specs.GivenValues.{Value, entry_of, tag_of}
use Rattle.tiff_encode.proofs.Guarding.{tag_told, tag_fails}

-- ---- a key that is set in a map twice, or set and removed

-- a choice of a choice by the same test
again : {A : Type 0} (x y z a : A) (b : Bool) → x ≡ cond b y z → cond b a x ≡ cond b a z
again x y z a true h = refl
again x y z a false h = h

none : {A : Type 0} (o : Option A) → is_some o ≡ false → o ≡ None
none None e = refl
none (Some x) e = cc

module _ {X : Type 0} (m : FinMap nat_cmp X) (k : ℕ) (v : X) where
  there : contains_key (insert m k v) k ≡ true
  there = ap is_some (get-insert nat_cmp_total m k v k) ∙ grind (arith, nat_tests)

  set_again : (w : X) → insert (insert m k v) k w ≡ insert m k w
  set_again w =
      same_map nat_cmp_total nat_cmp-IsAntisymmetric _ _
      (λ q. get-insert nat_cmp_total (insert m k v) k w q
      ∙ again _ _ _ _ (is_eq (nat_cmp q k)) (get-insert nat_cmp_total m k v q)
      ∙ sym (get-insert nat_cmp_total m k w q))

  set_and_removed : contains_key m k ≡ false → remove (insert m k v) k ≡ m
  set_and_removed h =
      let gone : get m k ≡ None = none (get m k) h in
      same_map nat_cmp_total nat_cmp-IsAntisymmetric _ _
      (λ q. get-remove nat_cmp_total (insert m k v) k q
      ∙ again _ _ _ _ (is_eq (nat_cmp q k)) (get-insert nat_cmp_total m k v q)
      ∙ grind (arith, nat_tests, gone, λ (is : q ≡ k). ap (get m) is))

-- ---- the room for a field

-- a room that is made has a field of the tag
pub room_there : (t : Tag) (d : OpenDirectory) (room : Room) → IsRoomFor t d room
    → is_made room ≡ true
    → contains_key (with_room d t room).fields (tag_number t) ≡ true
room_there t d Taken is made = is
room_there t d Held is made = there d.fields (tag_number t) blank_field
room_there t d Missing is made = cc

-- a field that is set in its room is the field of the tag
pub room_set : (t : Tag) (d : OpenDirectory) (room : Room) (field : Field)
    → with_field (with_room d t room) t field ≡ with_field d t field
room_set t d Taken field = refl
room_set t d Held field =
    λ i. record d { fields = set_again d.fields (tag_number t) blank_field field i }
room_set t d Missing field = refl

-- without the field that holds the place, the directory is as it was
pub room_left : (t : Tag) (d : OpenDirectory) → IsRoomFor t d Held
    → without_field (with_room d t Held) t ≡ d
room_left t d is =
    λ i. record d { fields = set_and_removed d.fields (tag_number t) blank_field is i }

-- ---- a value in its room

room_kept : (room : Room) (made : Bool) (placed : Result Field TiffError) (old new : FileState)
    → made ≡ is_made room
    → IsInRoom made old new placed → IfOk placed (λ _. is_made room ≡ true)
room_kept room made (Ok field) old new m h = sym m ∙ h
room_kept room made (Err e) old new m h = tt

module _ {S A : Type 0} (opened : S → OpenDirectory) (having : S → OpenDirectory → S)
    (given : (s : S) (d : OpenDirectory) → opened (having s d) ≡ d) (own : (s : S) → having s (opened s) ≡ s)
    (s next : S) (t : Tag) (placed : Result Field TiffError) where
  abbrev Settled : Result A TiffError → Type 0
  Settled r = IsSettled (λ field. having s (with_field (opened s) t field)) s placed r next

  settled_stays : (r : Result A TiffError) → Settled r → OnErr r (next ≡ s)
  settled_stays (Ok x) h = tt
  settled_stays (Err e) h = h.1

  settled_rest : (r : Result A TiffError) → Settled r → next ≡ having s (opened next)
  settled_rest (Ok x) (field, (q, n)) = n ∙ ap (having s) (sym (ap opened n ∙ given s _))
  settled_rest (Err e) (q, n) = n ∙ sym (own s) ∙ ap (having s) (sym (ap opened n))

  module _ (v : Value) (old new : FileState) (ends : Ends (λ (f : Field). f) (entry_of v old) placed old new) where
    settled_ends : (r : Result A TiffError) → Settled r
        → Ends (λ (_ : A). opened next) (tag_of (opened s) t v old) r old new
    settled_ends (Ok x) (field, (q, n)) =
        let P : Result Field TiffError → Type 0 =
        λ p. Ends (λ (f : Field). f) (entry_of v old) p old new in
        subst (λ d. EndsAsDefined (tag_of (opened s) t v old) (Ok d) new) (sym (ap opened n
        ∙ given s _))
        (tag_told (opened s) t v field old new (subst P q ends))
    settled_ends (Err e) (q, n) =
        let P : Result Field TiffError → Type 0 =
        λ p. Ends (λ (f : Field). f) (entry_of v old) p old new in
        tag_fails (opened s) t v e old new (subst P q ends)

    settled_leaves : (r : Result A TiffError) (m : Model)
        → Leaves (entry_of v old) placed old new m → Settled r
        → Leaves (tag_of (opened s) t v old) r old new m
    settled_leaves (Ok x) m leaves (field, (q, n)) =
        let P : Result Field TiffError → Type 0 =
        λ p. Ends (λ (f : Field). f) (entry_of v old) p old new in
        let L : Result Field TiffError → Type 0 = λ p. Leaves (entry_of v old) p old new m in
        tag_kept (opened s) t field old new m v (subst P q ends) (subst L q leaves)
    settled_leaves (Err e) m leaves (q, n) =
        let L : Result Field TiffError → Type 0 =
        λ p. Leaves (entry_of v old) p old new m in subst L q leaves

  settled_unwritten : (r : Result A TiffError) (room : Bool) (old new : FileState)
      → IsInRoom room old new placed → Settled r
      → OnErr r (StaysUnlessCut old new)
  settled_unwritten (Ok x) room old new in_room h = tt
  settled_unwritten (Err e) room old new in_room (q, n) =
      let P : Result Field TiffError → Type 0 = λ p. IsInRoom room old new p in subst P q in_room

  -- a call that sets a field to the value ends so, or the state stays
  pub tag_set : (v : Value) (r : Result A TiffError) (room : Room) (made : Bool) (roomed : S)
      (old new : FileState)
      → roomed ≡ having s (with_room (opened s) t room) → IsRoomFor t (opened s) room
      → made ≡ is_made room → IsInRoom made old new placed
      → Ends (λ (f : Field). f) (entry_of v old) placed old new
      → ((s : S) → roomed ≡ having s (with_room (opened s) t room) → IsRoomFor t (opened s) room
      → IfOk placed (λ _. is_made room ≡ true)
      → IsSettled (λ field. having s (with_field (opened s) t field)) s placed r next)
      → OnErr r (next ≡ s) × Ends (λ (_ : A). opened next) (tag_of (opened s) t v old) r old new
  tag_set v r room made roomed old new at is m in_room ends settles =
      let settled : Settled r =
      settles s at is (room_kept room made placed old new m in_room) in
      (settled_stays r settled, settled_ends v old new ends r settled)

  -- what a call leaves that sets a field to the value
  pub record SetsTag (v : Value) (r : Result A TiffError) (old new : FileState) : Type 0 where
    pub stays : OnErr r (next ≡ s)
    pub rest : next ≡ having s (opened next)
    pub answer : Ends (λ (_ : A). opened next) (tag_of (opened s) t v old) r old new
    pub unwritten : OnErr r (StaysUnlessCut old new)
    pub leaves : (m : Model) → FileContains old.kind old.bytes m
        → Leaves (tag_of (opened s) t v old) r old new m

  pub sets_tag : (v : Value) (r : Result A TiffError) (room : Room) (made : Bool) (roomed : S)
      (old new : FileState)
      → roomed ≡ having s (with_room (opened s) t room) → IsRoomFor t (opened s) room
      → made ≡ is_made room → IsInRoom made old new placed
      → Ends (λ (f : Field). f) (entry_of v old) placed old new
      → ((m : Model) → FileContains old.kind old.bytes m → Leaves (entry_of v old) placed old new m)
      → ((s : S) → roomed ≡ having s (with_room (opened s) t room) → IsRoomFor t (opened s) room
      → IfOk placed (λ _. is_made room ≡ true)
      → IsSettled (λ field. having s (with_field (opened s) t field)) s placed r next)
      → SetsTag v r old new
  sets_tag v r room made roomed old new at is m in_room ends leaves settles =
      let settled : Settled r =
      settles s at is (room_kept room made placed old new m in_room) in
      record {
        stays = settled_stays r settled;
        rest = settled_rest r settled;
        answer = settled_ends v old new ends r settled;
        unwritten = settled_unwritten r made old new in_room settled;
        leaves = λ n s. settled_leaves v old new ends r n (leaves n s) settled;
      }
