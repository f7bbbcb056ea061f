-- Arguments: `[n :=] [ByVal or #] e`, or nothing where one is left out.
use Rattle.std.specs.Prelude.{◌≡◌, ℕ, List, [], ◌∷◌, Option, Some, None, Bool, true, false, ◌||◌, codes}
use Rattle.vb_tree.specs.declared.expression.Arg6.{Arg6}
use Rattle.vb_tree.specs.declared.token.Sign.{Sign}
use Rattle.vb_tree.specs.declared.token.Sign.TheVariants.{ColonEqual, Hash}
use Rattle.vb_tree.specs.declared.token.Token.{Token}
use Rattle.vb_tree.specs.declared.token.TokenKind.{TokenKind}
use Rattle.vb_tree.specs.declared.token.TokenKind.TheVariants as kind
use Rattle.vb_tree.specs.Tree.{Exp, Args, Given, no_args, next_arg, omitted, given}
use Rattle.vb_tree.specs.View.{given_of}
use Rattle.vb_tree.specs.Expressions.{IsExpression, given_depth}
use Rattle.form_parts.specs.Words.{is_key_kind}
use Rattle.form_parts.specs.Parts.{name_of_token, name_alone}

-- one argument of a list
pub record Argument : Type 0 where
  pub name : Option (List ℕ)
  pub marked : Bool
  pub value : Given

abbrev pub argument_of : Arg6 → Argument
argument_of a = record { name = a.name; marked = a.marked; value = given_of a.value }

abbrev pub args_from : List Argument → Args
args_from [] = no_args
args_from (a ∷ more) = next_arg a.name a.marked a.value (args_from more)

abbrev pub is_assign_sign : Sign → Bool
is_assign_sign ColonEqual = true
is_assign_sign _ = false

abbrev pub is_assign : TokenKind → Bool
is_assign (kind.Word n s) = false
is_assign (kind.Bracketed n s) = false
is_assign (kind.Lit l) = false
is_assign (kind.Sign s) = is_assign_sign s

abbrev pub is_hash_sign : Sign → Bool
is_hash_sign Hash = true
is_hash_sign _ = false

abbrev pub is_hash : TokenKind → Bool
is_hash (kind.Word n s) = false
is_hash (kind.Bracketed n s) = false
is_hash (kind.Lit l) = false
is_hash (kind.Sign s) = is_hash_sign s

abbrev pub is_mark : TokenKind → Bool
is_mark k = is_key_kind (codes "byval") k || is_hash k

abbrev pub name_before : Bool → Option (List ℕ) → Option (List ℕ)
name_before true n = n
name_before false n = None

-- the name before `:=`
abbrev pub argument_name : List Token → Option (List ℕ)
argument_name [] = None
argument_name (t ∷ []) = None
argument_name (t ∷ s ∷ rest) = name_before (is_assign s.kind) (name_alone (name_of_token t))

abbrev pub past_two : Option (List ℕ) → List Token → List Token
past_two None tokens = tokens
past_two (Some n) [] = []
past_two (Some n) (t ∷ []) = []
past_two (Some n) (t ∷ s ∷ rest) = rest

-- what stands behind the name and `:=`
abbrev pub past_name : List Token → List Token
past_name tokens = past_two (argument_name tokens) tokens

abbrev pub begins_marked : List Token → Bool
begins_marked [] = false
begins_marked (t ∷ ts) = is_mark t.kind

abbrev pub past_one : Bool → List Token → List Token
past_one false tokens = tokens
past_one true [] = []
past_one true (t ∷ ts) = ts

-- what stands behind ByVal or `#`
abbrev pub past_mark : List Token → List Token
past_mark tokens = past_one (begins_marked tokens) tokens

abbrev pub left_out : Argument
left_out = record { name = None; marked = false; value = omitted }

abbrev pub IsArgument : List Token → Argument → Type 0
IsArgument [] a = a ≡ left_out
IsArgument (t ∷ ts) a = (e : Exp) × IsExpression (past_mark (past_name (t ∷ ts))) e × (a ≡ record { name = argument_name (t ∷ ts); marked = begins_marked (past_name (t ∷ ts)); value = given e })

abbrev pub argument_depth : Argument → ℕ
argument_depth a = given_depth a.value
