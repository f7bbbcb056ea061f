-- What a tree of the code can hold: numbers that fit their types, and names of 1 to 512 printable characters; and how deep it
-- may be.
use Rattle.std.specs.Prelude.{ℕ, ◌^◌, ℤ, pos, negsuc, Bool, true, ◌&&◌, nat_le, nat_lt, List}
use Rattle.std.specs.List.{list_all}
use Rattle.up_base.specs.Names.{is_name}
use Rattle.net_tree.specs.Types as ty
use Rattle.net_tree.specs.Types.{TypeName}
use Rattle.net_tree.specs.declared.line.NetLabel.{NetLabel}
use Rattle.net_tree.specs.declared.line.NetLabel.TheVariants.{Word, Number}
use Rattle.net_tree.specs.Tree.{Literal, Exp, Exps, binary, boolean, call_of, cast, ctype, decimal, dot, integer, lit, long, me, new_array, new_object, next_exp, no_exps, nothing, paren, path, short, str, type_of, unary, with_dot}
use Rattle.net_tree.specs.Depth.{depth_exp, depth_exps, is_shallow_type}

-- whether a number is one of 2 * half, of which half are negative
abbrev pub fits_half : (half : ℕ) → ℤ → Bool
fits_half half (pos n) = nat_lt n half
fits_half half (negsuc n) = nat_lt n half

abbrev pub fits_name : List ℕ → Bool
fits_name name = is_name name

abbrev pub fits_path : List (List ℕ) → Bool
fits_path names = list_all is_name names

abbrev pub fits_rank : ℕ → Bool
fits_rank rank = nat_lt rank 256

-- whether the names and ranks of a type can be held
abbrev pub holds_type : TypeName → Bool
holds_type (ty.named names) = fits_path names
holds_type (ty.array_of element rank) = holds_type element && fits_rank rank
holds_type _ = true

abbrev pub fits_type : TypeName → Bool
fits_type t = is_shallow_type t && holds_type t

abbrev pub fits_label : NetLabel → Bool
fits_label (Word name) = fits_name name
fits_label (Number n) = nat_lt n (2 ^ 32)

abbrev pub fits_literal : Literal → Bool
fits_literal (boolean b) = true
fits_literal (short z hexadecimal) = fits_half (2 ^ 15) z
fits_literal (integer z hexadecimal) = fits_half (2 ^ 31) z
fits_literal (long z) = fits_half (2 ^ 63) z
fits_literal (decimal ten_thousandths) = fits_half (2 ^ 127) ten_thousandths
fits_literal (str units) = true

abbrev mutual
  pub fits_exp : Exp → Bool
  fits_exp (lit l) = fits_literal l
  fits_exp nothing = true
  fits_exp me = true
  fits_exp (path names) = fits_path names
  fits_exp (with_dot name) = fits_name name
  fits_exp (dot e name) = fits_exp e && fits_name name
  fits_exp (call_of e args) = fits_exp e && fits_exps args
  fits_exp (cast w e) = fits_exp e
  fits_exp (ctype e t) = fits_exp e && fits_type t
  fits_exp (unary o e) = fits_exp e
  fits_exp (binary o a b) = fits_exp a && fits_exp b
  fits_exp (paren e) = fits_exp e
  fits_exp (new_object t args) = fits_type t && fits_exps args
  fits_exp (new_array t bounds) = fits_type t && fits_exps bounds
  fits_exp (type_of e t) = fits_exp e && fits_type t

  pub fits_exps : Exps → Bool
  fits_exps no_exps = true
  fits_exps (next_exp e more) = fits_exp e && fits_exps more

-- what fits and is no deeper than that
abbrev pub fits_room : {X : Type 0} → (fits : X → Bool) → (depth : X → ℕ) → (room : ℕ) → X → Bool
fits_room fits depth room x = fits x && nat_le (depth x) room

abbrev pub fits_in : (room : ℕ) → Exp → Bool
fits_in room = fits_room fits_exp depth_exp room

abbrev pub fit_in : (room : ℕ) → Exps → Bool
fit_in room = fits_room fits_exps depth_exps room
