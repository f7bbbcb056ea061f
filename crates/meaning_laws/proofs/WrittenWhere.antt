-- What is written for a conversion is there exactly where there is such a conversion, and so for a constant.
use Rattle.std.proofs.Common.{◌≡◌, ℕ, ℤ, pos, negsuc, Bool, true, false, Some, None, refl}
use Rattle.std.specs.Prelude.{nat_eq, ◌||◌, is_some, if◌then◌else◌}
use Rattle.vb_tree.specs.BoundTree as types
use Rattle.vb_tree.specs.BoundTree.{Ty}
use Rattle.vb_tree.specs.declared.value.Value6.{Value6}
use Rattle.vb_tree.specs.declared.value.Value6.TheVariants as v
use Rattle.vb6_meaning.specs.declared.number.NumberKind.{NumberKind}
use Rattle.vb6_meaning.specs.declared.number.NumberKind.TheVariants as kinds
use Rattle.net_meaning.specs.SameValues.{is_typed}
use Rattle.net_meaning.specs.WrittenRows.{operand_a, kind_of, to_kind, write_conversion, write_from_variant}
use Rattle.net_meaning.specs.WrittenLiterals.{write_constant}
use Rattle.meaning_laws.specs.Conversions.{is_counted, is_variant, has_conversion, has_literal}

abbrev Where : (from to : Ty) → Type 0
Where s t = is_typed s ≡ true → is_some (write_conversion s t) ≡ has_conversion s t

to_counted : (k : NumberKind) (s : Ty) → is_typed s ≡ true → is_some (to_kind k s (kind_of s)) ≡ is_counted s || is_variant s
to_counted k types.boolean h = refl
to_counted k types.byte h = refl
to_counted k types.integer h = refl
to_counted k types.long h = refl
to_counted k types.currency h = refl
to_counted k types.str h = refl
to_counted k (types.fixed units) h = refl
to_counted k (types.user n) h = refl
to_counted k (types.class n) h = refl
to_counted k types.object h = refl
to_counted k types.variant h = absurd (let e : false ≡ true = h in cc)
to_counted k (types.array element rank) h = refl
to_counted k types.nothing h = refl
to_counted k types.unknown h = refl

to_boolean : (s : Ty) → Where s types.boolean
to_boolean types.variant h = absurd (let e : false ≡ true = h in cc)
to_boolean types.boolean h = refl
to_boolean types.byte h = refl
to_boolean types.integer h = refl
to_boolean types.long h = refl
to_boolean types.currency h = refl
to_boolean _ h = refl

to_text : (s : Ty) → Where s types.str
to_text types.variant h = absurd (let e : false ≡ true = h in cc)
to_text types.boolean h = refl
to_text types.byte h = refl
to_text types.integer h = refl
to_text types.long h = refl
to_text types.currency h = refl
to_text types.str h = refl
to_text (types.fixed units) h = refl
to_text _ h = refl

to_fixed : (units : ℕ) (s : Ty) → Where s (types.fixed units)
to_fixed units types.boolean h = refl
to_fixed units types.byte h = refl
to_fixed units types.integer h = refl
to_fixed units types.long h = refl
to_fixed units types.currency h = refl
to_fixed units types.str h = refl
to_fixed units (types.fixed other) h = refl
to_fixed units _ h = refl

to_variant : (s : Ty) → Where s types.variant
to_variant types.boolean h = refl
to_variant types.byte h = refl
to_variant types.integer h = refl
to_variant types.long h = refl
to_variant types.currency h = refl
to_variant types.str h = refl
to_variant (types.fixed units) h = refl
to_variant types.variant h = refl
to_variant _ h = refl

to_object : (s : Ty) → Where s types.object
to_object types.object h = refl
to_object (types.class k) h = refl
to_object types.nothing h = refl
to_object _ h = refl

by_class : (b : Bool) → is_some (if b then Some operand_a else None) ≡ b || false
by_class true = refl
by_class false = refl

to_class : (k : ℕ) (s : Ty) → Where s (types.class k)
to_class k (types.class l) h = by_class (nat_eq k l)
to_class k types.nothing h = refl
to_class k _ h = refl

to_nothing : (s : Ty) → Where s types.nothing
to_nothing types.nothing h = refl
to_nothing _ h = refl

pub conversion : (s t : Ty) → is_typed s ≡ true → is_some (write_conversion s t) ≡ has_conversion s t
conversion s types.boolean h = to_boolean s h
conversion s types.byte h = to_counted kinds.Byte s h
conversion s types.integer h = to_counted kinds.Integer s h
conversion s types.long h = to_counted kinds.Long s h
conversion s types.currency h = to_counted kinds.Currency s h
conversion s types.str h = to_text s h
conversion s (types.fixed units) h = to_fixed units s h
conversion s (types.user k) h = refl
conversion s (types.class k) h = to_class k s h
conversion s types.object h = to_object s h
conversion s types.variant h = to_variant s h
conversion s (types.array element rank) h = refl
conversion s types.nothing h = to_nothing s h
conversion s types.unknown h = refl

pub from_variant : (t : Ty) → is_some (write_from_variant t) ≡ has_conversion types.variant t
from_variant types.boolean = refl
from_variant types.byte = refl
from_variant types.integer = refl
from_variant types.long = refl
from_variant types.currency = refl
from_variant types.str = refl
from_variant types.variant = refl
from_variant _ = refl

pub constant : (hexadecimal : Bool) (a : Value6) → is_some (write_constant hexadecimal a) ≡ has_literal a
constant h (v.Boolean b) = refl
constant h (v.Byte m) = refl
constant h (v.Int z) = refl
constant h (v.Long z) = refl
constant h (v.Cur z) = by_sign z
  where
    by_sign : (z : ℤ) → is_some (write_constant h (v.Cur z)) ≡ true
    by_sign (pos m) = refl
    by_sign (negsuc m) = refl
constant h (v.Str units) = refl
constant h v.Nothing = refl
constant h (v.Object number) = refl
constant h v.Empty = refl
