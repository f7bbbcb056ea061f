-- The depth of the lines of a procedure, and their text line by line.
use Rattle.std.proofs.Common.{◌≡◌, ℕ, suc, ◌+◌, ◌<◌, ◌≤◌, List, [], ◌∷◌, ◌++◌, map, length, take, get_or, refl, sym, ap, ◌∙◌, append_assoc, append-nil, arith}
use Rattle.std.proofs.lemmas.Grind.{common_steps}
use Rattle.std.proofs.lemmas.List.{map-append}
use Rattle.net_tree.specs.declared.block.NetRole.{NetRole}
use Rattle.net_tree.specs.declared.block.NetRole.TheVariants.{Plain, Opens, Parts, Closes}
use Rattle.net_tree.specs.declared.line.NetLine.{NetLine}
use Rattle.net_tree.specs.Tree.{Line}
use Rattle.net_tree.specs.View.{line_of}
use Rattle.net_tree.specs.Blocks.{role_of, depth_at, depth_behind}
use Rattle.net_tree.specs.Spelling.{at_depth}
use Rattle.net_tree.specs.Lines.{line_text, lines_text}

-- how many blocks are open behind lines
abbrev pub depth_through : ℕ → List Line → ℕ
depth_through depth [] = depth
depth_through depth (l ∷ lines) = depth_through (depth_behind (role_of l) depth) lines

text_push : (depth : ℕ) (lines : List Line) (l : Line) → lines_text depth (lines ++ l ∷ []) ≡ lines_text depth lines ++ at_depth (depth_at (role_of l) (depth_through depth lines)) (line_text l)
text_push depth [] l = append-nil (at_depth (depth_at (role_of l) depth) (line_text l))
text_push depth (k ∷ lines) l =
    ap (λ text. at_depth (depth_at (role_of k) depth) (line_text k) ++ text) (text_push (depth_behind (role_of k) depth) lines l)
    ∙ sym (append_assoc (at_depth (depth_at (role_of k) depth) (line_text k)) (lines_text (depth_behind (role_of k) depth) lines) _)

through_push : (depth : ℕ) (lines : List Line) (l : Line) → depth_through depth (lines ++ l ∷ []) ≡ depth_behind (role_of l) (depth_through depth lines)
through_push depth [] l = refl
through_push depth (k ∷ lines) l = through_push (depth_behind (role_of k) depth) lines l

pub one_deeper : (role : NetRole) (depth : ℕ) → depth_behind role depth ≤ depth + 1
one_deeper Plain depth = omega arith
one_deeper (Opens kind) depth = omega arith
one_deeper (Parts kind) depth = omega arith
one_deeper (Closes kind) depth = omega arith

grown : (xs : List NetLine) (i : ℕ) (x : NetLine) → i < length xs → x ≡ get_or xs i x → map line_of (take (i + 1) xs) ≡ map line_of (take i xs) ++ line_of x ∷ []
grown xs i x within at = grind (arith, common_steps)

-- a line more is written
pub line_turn : (xs : List NetLine) (i : ℕ) (x : NetLine) (depth at : ℕ) (start before after : List ℕ) → i < length xs → x ≡ get_or xs i x → before ≡ start ++ lines_text depth (map line_of (take i xs)) → at ≡ depth_through depth (map line_of (take i xs)) → after ≡ before ++ at_depth (depth_at (role_of (line_of x)) at) (line_text (line_of x)) → after ≡ start ++ lines_text depth (map line_of (take (i + 1) xs))
line_turn xs i x depth at start before after within is written deep more =
    more
    ∙ ap (λ d. before ++ at_depth (depth_at (role_of (line_of x)) d) (line_text (line_of x))) deep
    ∙ ap (λ text. text ++ at_depth (depth_at (role_of (line_of x)) (depth_through depth (map line_of (take i xs)))) (line_text (line_of x))) written
    ∙ append_assoc start (lines_text depth (map line_of (take i xs))) _
    ∙ ap (λ text. start ++ text) (sym (text_push depth (map line_of (take i xs)) (line_of x)))
    ∙ ap (λ lines. start ++ lines_text depth lines) (sym (grown xs i x within is))

pub depth_turn : (xs : List NetLine) (i : ℕ) (x : NetLine) (depth at next : ℕ) → i < length xs → x ≡ get_or xs i x → at ≡ depth_through depth (map line_of (take i xs)) → next ≡ depth_behind (role_of (line_of x)) at → next ≡ depth_through depth (map line_of (take (i + 1) xs))
depth_turn xs i x depth at next within is deep step =
    step ∙ ap (depth_behind (role_of (line_of x))) deep ∙ sym (through_push depth (map line_of (take i xs)) (line_of x))
    ∙ ap (depth_through depth) (sym (grown xs i x within is))
