-- The worked examples of `Ifd.View` hold.
use Rattle.std.specs.Prelude.{◌≡◌, ℕ, [], ◌∷◌, Vec}
use Rattle.std.proofs.Common.{ap, ◌∙◌, rules}
use Rattle.std.specs.Cmp.{nat_cmp_total}
use Rattle.std.specs.FinMap.{empty, insert, get-insert}
use Rattle.std.specs.declared.alloc.Global.{Global}
use Rattle.tiff_ifd.specs.PlainValue as d
use Rattle.tiff_ifd.specs.PlainValue.{more, none, plain_value_list_of}
use Rattle.tiff_ifd.specs.View.{plain_value, plain_values}
use Rattle.tiff_ifd.specs.declared.value.Value.{Value, the_lemmas}
use Rattle.tiff_ifd.specs.declared.value.Value.TheVariants as v
use Rattle.test_definitions.specs.Ifd.View as s

byte_datum : (n : ℕ) → plain_value (v.Byte n) ≡ d.byte n
byte_datum n = search (rules, the_lemmas)

pub short_datum : (n : ℕ) → plain_value (v.Short n) ≡ d.short n
short_datum n = search (rules, the_lemmas)

list_datum : (vs : Vec Value Global)
    → plain_value (v.List vs) ≡ d.list (plain_value_list_of (plain_values vs.items))
list_datum vs = search (rules, the_lemmas)

pub byte_seen : s.byte_seen
byte_seen = byte_datum 3

inner_datum : (vs : Vec Value Global) → vs.items ≡ (v.Byte 2 ∷ [])
    → plain_value (v.List vs) ≡ d.list (more (d.byte 2) none)
inner_datum vs e =
    list_datum vs ∙ ap (λ xs. d.list (plain_value_list_of (plain_values xs))) e
    ∙ ap (λ x. d.list (more x none)) (byte_datum 2)

pub list_seen : s.list_seen
list_seen outer inner e f =
    list_datum outer ∙ ap (λ xs. d.list (plain_value_list_of (plain_values xs))) f
    ∙ λ i. d.list (more (short_datum 1 i) (more (inner_datum inner e i) none))

pub float_seen : s.float_seen
float_seen = search (rules, the_lemmas)

pub two_seen : s.two_seen
two_seen = λ i. byte_datum 1 i ∷ short_datum 2 i ∷ []

pub last_set : s.last_set
last_set =
    get-insert nat_cmp_total (insert empty 256 s.one_byte) 256 (record s.one_byte { count = 2 }) 256

pub ruleset worked = (byte_seen, list_seen, float_seen, two_seen, last_set)
