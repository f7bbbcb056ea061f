-- The words that begin declarations begin no other line.
use Rattle.std.proofs.Common.{◌≡◌, ℕ, true, false, eqb, List, [], ◌∷◌, refl, sym, ap, ◌∙◌, eqb-true, Option, Some, None}
use Rattle.std.specs.Prelude.{option_map}
use Rattle.net_tree.specs.Tree.{Dim}
use Rattle.net_exprs.proofs.Words.{by_test}
use Rattle.net_reader.specs.FileLines.{text_of_line}
use Rattle.net_reader.specs.DeclarationReader.{dim_at, dim_by}
use Rattle.net_reader.specs.LineReader.{line_at, line_by}
use Rattle.net_reader.specs.ModuleReader.{Body, going, grown_by_line, line_taken, with_dim}
use Rattle.net_reader.specs.Takings.{declares, dim_within}
use Rattle.net_reader.specs.Words as w
use Rattle.net_reader.specs.Words.{keyword_at, line_words}

quote_begins_none : (cs : List ℕ) → keyword_at (39 ∷ cs) ≡ None
unfolding line_words
quote_begins_none cs = refl

no_line_by : (word : Option w.Word) (text : List ℕ) → declares word ≡ true → line_by word text ≡ None
no_line_by None text h = absurd (cc h)
no_line_by (Some w.dim_word) text h = refl
no_line_by (Some w.static_word) text h = refl
no_line_by (Some w.const_word) text h = refl
no_line_by (Some _) text h = absurd (cc h)

no_quote : (c : ℕ) (cs : List ℕ) → declares (keyword_at (c ∷ cs)) ≡ true → eqb c 39 ≡ false
no_quote c cs h =
    by_test (eqb c 39) (λ b. b ≡ false)
    (λ t. cc (sym h ∙ ap (λ d. declares (keyword_at (d ∷ cs))) (eqb-true c 39 t) ∙ ap declares (quote_begins_none cs)))
    (λ f. refl)

no_line : (text : List ℕ) → declares (keyword_at text) ≡ true → line_at text ≡ None
no_line [] h = no_line_by (keyword_at []) [] h
no_line (c ∷ cs) h = rw (no_quote c cs h) (no_line_by (keyword_at (c ∷ cs)) (c ∷ cs) h)

no_dim_by : (word : Option w.Word) (text : List ℕ) → declares word ≡ false → dim_by word text ≡ None
no_dim_by None text h = refl
no_dim_by (Some w.dim_word) text h = absurd (cc h)
no_dim_by (Some w.static_word) text h = absurd (cc h)
no_dim_by (Some w.const_word) text h = absurd (cc h)
no_dim_by (Some _) text h = refl

-- where such a word begins a line, it is a declaration or nothing
pub dim_alone : (depth : ℕ) (b : Body) (line : List ℕ) → declares (keyword_at (text_of_line line)) ≡ true →
    grown_by_line depth b (dim_at (text_of_line line)) line ≡ option_map (λ (d : Dim). going (with_dim b d)) (dim_within depth b line (dim_at (text_of_line line)))
dim_alone depth b line h = go (dim_at (text_of_line line))
  where
    go : (found : Option Dim) → grown_by_line depth b found line ≡ option_map (λ (d : Dim). going (with_dim b d)) (dim_within depth b line found)
    go (Some d) = refl
    go None = rw (no_line (text_of_line line) h) refl

-- and otherwise no declaration
pub line_alone : (depth : ℕ) (b : Body) (line : List ℕ) → declares (keyword_at (text_of_line line)) ≡ false →
    grown_by_line depth b (dim_at (text_of_line line)) line ≡ line_taken depth b line
line_alone depth b line h = ap (λ (found : Option Dim). grown_by_line depth b found line) (no_dim_by (keyword_at (text_of_line line)) _ h)
