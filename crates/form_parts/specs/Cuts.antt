-- Where tokens are cut: at a sign that stands outside of parentheses.
use Rattle.std.specs.Prelude.{ℕ, ◌+◌, ◌-◌, ◌==◌, ◌&&◌, List, [], ◌∷◌, Option, Some, None, option_map, Bool, true, false}
use Rattle.vb_tree.specs.declared.token.Sign.{Sign}
use Rattle.vb_tree.specs.declared.token.Sign.TheVariants.{OpenParen, CloseParen, Comma, Semicolon, Equal}
use Rattle.vb_tree.specs.declared.token.Token.{Token}
use Rattle.vb_tree.specs.declared.token.TokenKind.{TokenKind}
use Rattle.vb_tree.specs.declared.token.TokenKind.TheVariants as kind
use Rattle.form_parts.specs.declared.cuts.Separator.{Separator}
use Rattle.form_parts.specs.declared.cuts.Separator.TheVariants as sep

abbrev pub is_separator_sign : Separator → Sign → Bool
is_separator_sign sep.Comma Comma = true
is_separator_sign sep.Comma _ = false
is_separator_sign sep.Semicolon Semicolon = true
is_separator_sign sep.Semicolon _ = false
is_separator_sign sep.Equal Equal = true
is_separator_sign sep.Equal _ = false
is_separator_sign sep.Closing CloseParen = true
is_separator_sign sep.Closing _ = false

abbrev pub is_separator : Separator → TokenKind → Bool
is_separator s (kind.Word n x) = false
is_separator s (kind.Bracketed n x) = false
is_separator s (kind.Lit l) = false
is_separator s (kind.Sign x) = is_separator_sign s x

abbrev pub open_sign : ℕ → Sign → ℕ
open_sign d OpenParen = d + 1
open_sign d CloseParen = d - 1
open_sign d _ = d

-- how many parentheses are open behind a token, where d were open before it
abbrev pub open_after : ℕ → TokenKind → ℕ
open_after d (kind.Word n x) = d
open_after d (kind.Bracketed n x) = d
open_after d (kind.Lit l) = d
open_after d (kind.Sign x) = open_sign d x

-- whether a token parts what stands before and behind it
abbrev pub parts_here : Separator → ℕ → TokenKind → Bool
parts_here s d k = d == 0 && is_separator s k

abbrev pub part_behind : Bool → Token → List Token → Option (List Token × List Token) → Option (List Token × List Token)
part_behind true t ts r = Some ([], ts)
part_behind false t ts r = option_map (λ p. (t ∷ p.0, p.1)) r

abbrev pub parted_in : Separator → ℕ → List Token → Option (List Token × List Token)
parted_in s d [] = None
parted_in s d (t ∷ ts) = part_behind (parts_here s d t.kind) t ts (parted_in s (open_after d t.kind) ts)

-- what stands before and behind the first such sign outside of parentheses
abbrev pub parted : Separator → List Token → Option (List Token × List Token)
parted s tokens = parted_in s 0 tokens

abbrev pub placed : Bool → Token → List (List Token) → List (List Token)
placed true t ps = [] ∷ ps
placed false t [] = (t ∷ []) ∷ []
placed false t (p ∷ ps) = (t ∷ p) ∷ ps

abbrev pub pieces_in : Separator → ℕ → List Token → List (List Token)
pieces_in s d [] = [] ∷ []
pieces_in s d (t ∷ ts) = placed (parts_here s d t.kind) t (pieces_in s (open_after d t.kind) ts)

-- what stands between such signs outside of parentheses
abbrev pub pieces : Separator → List Token → List (List Token)
pieces s tokens = pieces_in s 0 tokens

-- the pieces are the items, one by one
abbrev pub Each : {X : Type 0} → (List Token → X → Type 0) → List (List Token) → List X → Type 0
Each Is [] [] = Unit {0}
Each Is [] (x ∷ xs) = ⊥
Each Is (p ∷ ps) [] = ⊥
Each Is (p ∷ ps) (x ∷ xs) = Is p x × Each Is ps xs
