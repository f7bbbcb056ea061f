-- Targets: a word, Me, `.n` or `!n`, and then members and argument lists.
use Rattle.std.specs.Prelude.{◌≡◌, ℕ, zero, suc, ◌<◌, ◌≤◌, List, [], ◌∷◌, length, take, Bool, true, false, ◌||◌, codes}
use Rattle.vb_tree.specs.declared.token.Sign.{Sign}
use Rattle.vb_tree.specs.declared.token.Sign.TheVariants.{OpenParen, CloseParen, Dot, Bang}
use Rattle.vb_tree.specs.declared.token.Token.{Token}
use Rattle.vb_tree.specs.declared.token.TokenKind.{TokenKind}
use Rattle.vb_tree.specs.declared.token.TokenKind.TheVariants as kind
use Rattle.vb_tree.specs.Tree.{Exp}
use Rattle.vb_tree.specs.Expressions.{IsExpression}
use Rattle.form_parts.specs.declared.chains.Link.{Link}
use Rattle.form_parts.specs.declared.chains.Link.TheVariants.{Begin, Access, Member, Inside, Listed, Broken}
use Rattle.form_parts.specs.Words.{is_key_kind}

-- the words that begin an expression and no target
abbrev pub is_no_target : TokenKind → Bool
is_no_target k =
    is_key_kind (codes "true") k || is_key_kind (codes "false") k || is_key_kind (codes "nothing") k
    || is_key_kind (codes "empty") k || is_key_kind (codes "null") k || is_key_kind (codes "not") k

abbrev pub first_link : Bool → Link
first_link true = Broken
first_link false = Member

abbrev pub sign_at_start : Sign → Link
sign_at_start Dot = Access
sign_at_start Bang = Access
sign_at_start _ = Broken

abbrev pub at_start : TokenKind → Link
at_start (kind.Word n s) = first_link (is_no_target (kind.Word n s))
at_start (kind.Bracketed n s) = Member
at_start (kind.Lit l) = Broken
at_start (kind.Sign s) = sign_at_start s

abbrev pub sign_behind : Sign → Link
sign_behind Dot = Access
sign_behind Bang = Access
sign_behind OpenParen = Inside 0
sign_behind _ = Broken

abbrev pub at_end : TokenKind → Link
at_end (kind.Word n s) = Broken
at_end (kind.Bracketed n s) = Broken
at_end (kind.Lit l) = Broken
at_end (kind.Sign s) = sign_behind s

abbrev pub at_access : TokenKind → Link
at_access (kind.Word n s) = Member
at_access (kind.Bracketed n s) = Member
at_access (kind.Lit l) = Broken
at_access (kind.Sign s) = Broken

abbrev pub closed_list : ℕ → Link
closed_list zero = Listed
closed_list (suc d) = Inside d

abbrev pub sign_inside : ℕ → Sign → Link
sign_inside d OpenParen = Inside (suc d)
sign_inside d CloseParen = closed_list d
sign_inside d _ = Inside d

abbrev pub at_inside : ℕ → TokenKind → Link
at_inside d (kind.Word n s) = Inside d
at_inside d (kind.Bracketed n s) = Inside d
at_inside d (kind.Lit l) = Inside d
at_inside d (kind.Sign s) = sign_inside d s

-- what a token makes of the links before it
abbrev pub link_after : Link → TokenKind → Link
link_after Begin k = at_start k
link_after Access k = at_access k
link_after Member k = at_end k
link_after Listed k = at_end k
link_after (Inside d) k = at_inside d k
link_after Broken k = Broken

-- the last link of a list of tokens
abbrev pub last_link_from : Link → List Token → Link
last_link_from l [] = l
last_link_from l (t ∷ ts) = last_link_from (link_after l t.kind) ts

abbrev pub last_link : List Token → Link
last_link tokens = last_link_from Begin tokens

abbrev pub is_member : Link → Bool
is_member Member = true
is_member _ = false

abbrev pub is_whole : Link → Bool
is_whole Member = true
is_whole Listed = true
is_whole _ = false

-- the tokens are the target t
abbrev pub IsTarget : List Token → Exp → Type 0
IsTarget tokens t = IsExpression tokens t × (is_whole (last_link tokens) ≡ true)

-- the tokens are the target t, and no argument list stands at their end
abbrev pub IsCallee : List Token → Exp → Type 0
IsCallee tokens t = IsExpression tokens t × (is_member (last_link tokens) ≡ true)

-- the longest front of the tokens whose last link is a member, 0 where there is none
pub record IsCalleeLength (tokens : List Token) (len : ℕ) : Type 0 where
  pub within : len ≤ length tokens
  pub member : 0 < len → is_member (last_link (take len tokens)) ≡ true
  pub longest : (m : ℕ) → m ≤ length tokens → is_member (last_link (take m tokens)) ≡ true → m ≤ len
