-- Which types convert to which, and which values stand as constants.
use Rattle.std.specs.Prelude.{ℕ, nat_eq, Bool, true, false, ◌||◌}
use Rattle.vb_tree.specs.BoundTree as types
use Rattle.vb_tree.specs.BoundTree.{Ty}
use Rattle.vb_tree.specs.declared.value.Value6.{Value6}
use Rattle.vb_tree.specs.declared.value.Value6.TheVariants as v

-- Boolean and the types of numbers
abbrev pub is_counted : Ty → Bool
is_counted types.boolean = true
is_counted types.byte = true
is_counted types.integer = true
is_counted types.long = true
is_counted types.currency = true
is_counted _ = false

-- a fixed string reads as a String
abbrev pub is_text : Ty → Bool
is_text types.str = true
is_text (types.fixed units) = true
is_text _ = false

abbrev pub is_variant : Ty → Bool
is_variant types.variant = true
is_variant _ = false

abbrev pub is_nothing : Ty → Bool
is_nothing types.nothing = true
is_nothing _ = false

abbrev pub is_object : Ty → Bool
is_object types.object = true
is_object (types.class k) = true
is_object types.nothing = true
is_object _ = false

abbrev pub is_class : (class : ℕ) → Ty → Bool
is_class k (types.class l) = nat_eq k l
is_class k _ = false

-- Whether the tables have a conversion from one type to another, or leave a value of the type as it stands. Boolean and the numbers go to
-- each other, they and texts to String, and a Variant to all of these and from them; no text goes to a number. A fixed string is cut or
-- padded of what goes to String without a Variant: a Variant goes to String first. A class goes to Object, and Nothing to both. A user
-- type, an array and an expression without a type are never converted.
abbrev pub has_conversion : (from to : Ty) → Bool
has_conversion s types.boolean = is_counted s || is_variant s
has_conversion s types.byte = is_counted s || is_variant s
has_conversion s types.integer = is_counted s || is_variant s
has_conversion s types.long = is_counted s || is_variant s
has_conversion s types.currency = is_counted s || is_variant s
has_conversion s types.str = is_counted s || (is_text s || is_variant s)
has_conversion s (types.fixed units) = is_counted s || is_text s
has_conversion s (types.user k) = false
has_conversion s (types.class k) = is_class k s || is_nothing s
has_conversion s types.object = is_object s
has_conversion s types.variant = is_counted s || (is_text s || is_variant s)
has_conversion s (types.array element rank) = false
has_conversion s types.nothing = is_nothing s
has_conversion s types.unknown = false

-- a Boolean, a number or a text; Nothing, Empty and objects are no constants of the .NET meaning
abbrev pub has_literal : Value6 → Bool
has_literal (v.Boolean b) = true
has_literal (v.Byte m) = true
has_literal (v.Int z) = true
has_literal (v.Long z) = true
has_literal (v.Cur z) = true
has_literal (v.Str units) = true
has_literal v.Nothing = false
has_literal (v.Object number) = false
has_literal v.Empty = false
