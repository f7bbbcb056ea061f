-- Procedures are read back behind their heads.
use Rattle.std.proofs.Common.{◌≡◌, ℕ, suc, ◌+◌, Bool, true, false, ◌&&◌, List, [], ◌∷◌, ◌++◌, length, codes, refl, sym, ap, subst, ◌∙◌, arith, append_assoc, append-nil, Option, Some}
use Rattle.std.specs.Prelude.{drop, option_map}
use Rattle.std.specs.List.{flat_map, list_all}
use Rattle.net_tree.specs.declared.block.NetBlock.{NetBlock}
use Rattle.net_tree.specs.declared.block.NetRole.{NetRole}
use Rattle.net_tree.specs.declared.block.NetRole.TheVariants.{Plain, Opens, Parts, Closes}
use Rattle.net_tree.specs.declared.declaration.NetClose.{NetClose}
use Rattle.net_tree.specs.declared.declaration.NetClose.TheVariants as close
use Rattle.net_tree.specs.declared.line.NetExit.{NetExit}
use Rattle.net_tree.specs.declared.line.NetExit.TheVariants as leaving
use Rattle.net_tree.specs.Tree.{Dim, Head, Line, Procedure, assign, call, call_of, exit, label, redim}
use Rattle.net_tree.specs.Blocks.{depth_at, depth_behind, fits_in, nests, nests_in, open_behind, role_of}
use Rattle.net_tree.specs.Spelling.{at_depth, label_text}
use Rattle.net_tree.specs.Expressions.{exp_text, is_writable_whole}
use Rattle.net_tree.specs.Lines.{is_writable_line, line_text, lines_text}
use Rattle.net_tree.specs.Declarations.{close_text, closes, dim_text, head_text, is_writable_dim, is_writable_head, is_writable_procedure, procedure_text}
use Rattle.net_exprs.proofs.Words.{both_true, never}
use Rattle.net_reader.specs.DeclarationReader.{close_at, close_by, dim_at, dim_by}
use Rattle.net_reader.specs.FileLines.{text_of_line}
use Rattle.net_reader.specs.Fits.{fits_dim, fits_head, fits_line, fits_procedure}
use Rattle.net_reader.specs.LineReader.{line_at}
use Rattle.net_reader.specs.ModuleReader.{Body, Grown, State, closed, closed_by, going, grown, grown_by, grown_by_line, has_no_blocks, has_no_lines, headed, step, with_dim, with_line}
use Rattle.net_reader.proofs.CutLines.{line_says}
use Rattle.net_reader.specs.Words.{behind_word, line_words}
use Rattle.net_reader.proofs.DeclarationsRead.{close_reads, dim_closes_none, dim_reads}
use Rattle.net_reader.proofs.LinesRead.{label_opens, line_reads, no_keyword}
use Rattle.net_reader.proofs.LineTexts.{close_is, dim_is, line_is}
use Rattle.net_reader.proofs.Openings as openings
use Rattle.net_reader.proofs.Openings.{whole_opens, then_opens}
use Rattle.net_reader.proofs.Taking.{Takes, all_taken, both_taken, line_taken, none_taken, own_taken}
use Rattle.net_reader.proofs.Tests.{all_both, and_true}

-- ---- lines of procedures are no other lines

-- neither a closing line nor a declaration
record IsBody (text : List ℕ) : Type 0 where
  closes_none : close_at text ≡ Option.None
  declares_none : dim_at text ≡ Option.None

opened_body : (text : List ℕ) → openings.Opens text → IsBody text
opened_body text o =
    let none = no_keyword text o in
    record { closes_none = ap (λ word. close_by word (drop 1 (behind_word text))) none; declares_none = ap (λ word. dim_by word (drop 1 (behind_word text))) none }

exit_body : (what : NetExit) → IsBody (line_text (exit what))
unfolding line_words
exit_body leaving.Sub = record { closes_none = refl; declares_none = refl }
exit_body leaving.Function = record { closes_none = refl; declares_none = refl }
exit_body leaving.Property = record { closes_none = refl; declares_none = refl }
exit_body leaving.For = record { closes_none = refl; declares_none = refl }
exit_body leaving.Do = record { closes_none = refl; declares_none = refl }

line_body : (l : Line) → is_writable_line l ≡ true → IsBody (line_text l)
unfolding line_words
line_body (assign a b) h =
    subst IsBody (sym (append_assoc (exp_text a) (codes " = ") (exp_text b)))
    (opened_body (exp_text a ++ (codes " = " ++ exp_text b))
    (then_opens (exp_text a) (codes " = " ++ exp_text b) (whole_opens a (both_true (is_writable_whole a) (is_writable_whole b) h).0) (λ rest. refl)))
line_body (call callee arguments) h = opened_body (exp_text (call_of callee arguments)) (whole_opens (call_of callee arguments) h)
line_body (label l) h = opened_body (label_text l ++ codes ":") (then_opens (label_text l) (codes ":") (label_opens l h) (λ rest. refl))
line_body (exit what) h = exit_body what
line_body (redim true items) h = record { closes_none = refl; declares_none = refl }
line_body (redim false items) h = record { closes_none = refl; declares_none = refl }
line_body _ h = record { closes_none = refl; declares_none = refl }

-- ---- the blocks round a line

-- the first of lines that nest, and those behind it
first_nests : (blocks : List NetBlock) (l : Line) (lines : List Line) → nests_in blocks (l ∷ lines) ≡ true →
    (fits_in (role_of l) blocks ≡ true) × (nests_in (open_behind (role_of l) blocks) lines ≡ true)
first_nests [] l lines h = both_true (fits_in (role_of l) []) (nests_in (open_behind (role_of l) []) lines) h
first_nests (round ∷ outer) l lines h = both_true (fits_in (role_of l) (round ∷ outer)) (nests_in (open_behind (role_of l) (round ∷ outer)) lines) h

-- so many blocks are open behind a line as its role says
depth_behind_line : (role : NetRole) (blocks : List NetBlock) (depth : ℕ) → fits_in role blocks ≡ true →
    depth_behind role (suc depth + length blocks) ≡ suc depth + length (open_behind role blocks)
depth_behind_line Plain blocks depth h = refl
depth_behind_line (Opens kind) blocks depth h = omega arith
depth_behind_line (Parts kind) blocks depth h = refl
depth_behind_line (Closes kind) [] depth h = never h
depth_behind_line (Closes kind) (round ∷ outer) depth h = omega arith

-- ---- what lines make of a procedure

dim_grows : (depth : ℕ) (b : Body) (d : Dim) → has_no_lines b.tree.lines ≡ true → is_writable_dim d ≡ true → fits_dim d ≡ true →
    grown depth b (at_depth (suc depth) (dim_text d)) ≡ Some (going (with_dim b d))
dim_grows depth b d n h k =
    let line = at_depth (suc depth) (dim_text d) in
    let says = line_says (suc depth) (dim_text d) (dim_is d h) in
    ap (λ c. grown_by depth b c line) (ap close_at says ∙ dim_closes_none d)
    ∙ ap (λ o. grown_by_line depth b o line) (ap dim_at says ∙ dim_reads d h k)
    ∙ ap (option_map (λ (d : Dim). going (with_dim b d)))
    (own_taken (λ (d : Dim). has_no_lines b.tree.lines && is_writable_dim d && fits_dim d) (λ (d : Dim). at_depth (suc depth) (dim_text d)) d line (Some d) refl
    (and_true (has_no_lines b.tree.lines && is_writable_dim d) (fits_dim d) (and_true (has_no_lines b.tree.lines) (is_writable_dim d) n h) k) refl)

line_grows : (depth : ℕ) (b : Body) (l : Line) → is_writable_line l ≡ true → fits_line l ≡ true → fits_in (role_of l) b.blocks ≡ true →
    grown depth b (at_depth (depth_at (role_of l) (suc depth + length b.blocks)) (line_text l)) ≡ Some (going (with_line b l))
line_grows depth b l h k fits =
    let body = line_body l h in
    let own = depth_at (role_of l) (suc depth + length b.blocks) in
    let line = at_depth own (line_text l) in
    let says = line_says own (line_text l) (line_is l h) in
    ap (λ c. grown_by depth b c line) (ap close_at says ∙ body.closes_none)
    ∙ ap (λ o. grown_by_line depth b o line) (ap dim_at says ∙ body.declares_none)
    ∙ ap (option_map (λ (l : Line). going (with_line b l)))
    (own_taken (λ (l : Line). is_writable_line l && fits_line l && fits_in (role_of l) b.blocks)
    (λ (l : Line). at_depth (depth_at (role_of l) (suc depth + length b.blocks)) (line_text l)) l line (line_at (text_of_line line))
    (ap line_at says ∙ line_reads l h k)
    (and_true (is_writable_line l && fits_line l) (fits_in (role_of l) b.blocks) (and_true (is_writable_line l) (fits_line l) h k) fits) refl)

close_grows : (depth : ℕ) (b : Body) (c : NetClose) → closes b.tree.head c ≡ true → has_no_blocks b.blocks ≡ true →
    grown depth b (at_depth depth (close_text c)) ≡ Some (closed (closed_by b c))
close_grows depth b c h n =
    let line = at_depth depth (close_text c) in
    ap (λ c. grown_by depth b c line) (ap close_at (line_says depth (close_text c) (close_is c)) ∙ close_reads c)
    ∙ ap (option_map (λ (c : NetClose). closed (closed_by b c)))
    (own_taken (λ (c : NetClose). closes b.tree.head c && has_no_blocks b.blocks) (λ (c : NetClose). at_depth depth (close_text c)) c line (Some c) refl
    (and_true (closes b.tree.head c) (has_no_blocks b.blocks) h n) refl)

abbrev is_read_dim : Dim → Bool
is_read_dim d = is_writable_dim d && fits_dim d

abbrev is_read_line : Line → Bool
is_read_line l = is_writable_line l && fits_line l

-- what can be written of a procedure
pub record IsWritten (p : Procedure) : Type 0 where
  pub head : is_writable_head p.head ≡ true
  pub closing : closes p.head p.close ≡ true
  pub dims : list_all is_read_dim p.prologue ≡ true
  pub lines : list_all is_read_line p.lines ≡ true
  pub blocks : nests p.lines ≡ true
  pub fits : fits_head p.head ≡ true

pub is_written : (p : Procedure) → is_writable_procedure p ≡ true → fits_procedure p ≡ true → IsWritten p
is_written p h k =
    let four = both_true (is_writable_head p.head && closes p.head p.close && list_all is_writable_dim p.prologue && list_all is_writable_line p.lines) (nests p.lines) h in
    let three = both_true (is_writable_head p.head && closes p.head p.close && list_all is_writable_dim p.prologue) (list_all is_writable_line p.lines) four.0 in
    let two = both_true (is_writable_head p.head && closes p.head p.close) (list_all is_writable_dim p.prologue) three.0 in
    let one = both_true (is_writable_head p.head) (closes p.head p.close) two.0 in
    let fit_two = both_true (fits_head p.head && list_all fits_dim p.prologue) (list_all fits_line p.lines) k in
    let fit = both_true (fits_head p.head) (list_all fits_dim p.prologue) fit_two.0 in
    record {
      head = one.0;
      closing = one.1;
      dims = all_both is_writable_dim fits_dim p.prologue two.1 fit.1;
      lines = all_both is_writable_line fits_line p.lines three.1 fit_two.1;
      blocks = four.1;
      fits = fit.0;
    }

-- where the lines of a procedure stand whose head has a depth, and what is behind each
module _ (depth : ℕ) (here : Body → State) (behind : Grown → State) where
  pub record HoldsProcedure : Type 0 where
    pub steps : (b : Body) (line : List ℕ) → step (here b) line ≡ option_map behind (grown depth b line)
    pub goes : (b : Body) → behind (going b) ≡ here b

  abbrev body : Head → List Dim → List Line → List NetBlock → Body
  body head dims lines blocks = record { tree = record { head = head; prologue = dims; lines = lines; close = close.EndSub }; blocks = blocks }

  dim_taken : HoldsProcedure → (head : Head) (before : List Dim) (d : Dim) → is_read_dim d ≡ true →
      Takes (here (body head before [] [])) (at_depth (suc depth) (dim_text d)) (here (body head (before ++ d ∷ []) [] []))
  dim_taken holds head before d h =
      let can = both_true (is_writable_dim d) (fits_dim d) h in
      let line = at_depth (suc depth) (dim_text d) in
      line_taken (suc depth) (dim_text d) (here (body head before [] [])) (here (body head (before ++ d ∷ []) [] [])) (dim_is d can.0)
      (holds.steps (body head before [] []) line ∙ ap (option_map behind) (dim_grows depth (body head before [] []) d refl can.0 can.1)
      ∙ ap (λ (s : State). Some s) (holds.goes (body head (before ++ d ∷ []) [] [])))

  one_line_taken : HoldsProcedure → (head : Head) (dims : List Dim) (before : List Line) (blocks : List NetBlock) (l : Line) → is_read_line l ≡ true →
      fits_in (role_of l) blocks ≡ true →
      Takes (here (body head dims before blocks)) (at_depth (depth_at (role_of l) (suc depth + length blocks)) (line_text l))
      (here (body head dims (before ++ l ∷ []) (open_behind (role_of l) blocks)))
  one_line_taken holds head dims before blocks l h fits =
      let can = both_true (is_writable_line l) (fits_line l) h in
      let own = depth_at (role_of l) (suc depth + length blocks) in
      let after = body head dims (before ++ l ∷ []) (open_behind (role_of l) blocks) in
      line_taken own (line_text l) (here (body head dims before blocks)) (here after) (line_is l can.0)
      (holds.steps (body head dims before blocks) (at_depth own (line_text l))
      ∙ ap (option_map behind) (line_grows depth (body head dims before blocks) l can.0 can.1 fits)
      ∙ ap (λ (s : State). Some s) (holds.goes after))

  lines_taken : HoldsProcedure → (head : Head) (dims : List Dim) (before : List Line) (blocks : List NetBlock) (lines : List Line) →
      list_all is_read_line lines ≡ true → nests_in blocks lines ≡ true →
      Takes (here (body head dims before blocks)) (lines_text (suc depth + length blocks) lines) (here (body head dims (before ++ lines) []))
  lines_taken holds head dims before [] [] h nested =
      subst (λ (lines : List Line). Takes (here (body head dims before [])) [] (here (body head dims lines []))) (sym (append-nil before)) (none_taken (here (body head dims before [])))
  lines_taken holds head dims before (round ∷ outer) [] h nested = never nested
  lines_taken holds head dims before blocks (l ∷ lines) h nested =
      let both = both_true (is_read_line l) (list_all is_read_line lines) h in
      let first = first_nests blocks l lines nested in
      let text = at_depth (depth_at (role_of l) (suc depth + length blocks)) (line_text l) in
      let opened = open_behind (role_of l) blocks in
      let start = here (body head dims before blocks) in
      subst (λ n. Takes start (text ++ lines_text n lines) (here (body head dims (before ++ l ∷ lines) []))) (sym (depth_behind_line (role_of l) blocks depth first.0))
      (subst (λ (all : List Line). Takes start (text ++ lines_text (suc depth + length opened) lines) (here (body head dims all []))) (append_assoc before (l ∷ []) lines)
      (both_taken text (lines_text (suc depth + length opened) lines) start (here (body head dims (before ++ l ∷ []) opened)) (here (body head dims (before ++ l ∷ [] ++ lines) []))
      (one_line_taken holds head dims before blocks l both.0 first.0)
      (lines_taken holds head dims (before ++ l ∷ []) opened lines both.1 first.1)))

  -- lines round which no block is open
  own_lines_taken : HoldsProcedure → (head : Head) (dims : List Dim) (lines : List Line) → list_all is_read_line lines ≡ true → nests lines ≡ true →
      Takes (here (body head dims [] [])) (lines_text (suc depth) lines) (here (body head dims lines []))
  own_lines_taken holds head dims lines h nested =
      subst (λ n. Takes (here (body head dims [] [])) (lines_text n lines) (here (body head dims lines []))) (none_added (suc depth)) (lines_taken holds head dims [] [] lines h nested)
    where
      none_added : (n : ℕ) → n + 0 ≡ n
      none_added n = omega arith

  -- a procedure, from the state before its head
  pub procedure_taken : HoldsProcedure → (p : Procedure) (s : State) → IsWritten p →
      Takes s (at_depth depth (head_text p.head)) (here (headed p.head)) → Takes s (procedure_text depth p) (behind (closed p))
  procedure_taken holds p s written first =
      let head = at_depth depth (head_text p.head) in
      let dims = flat_map (λ (d : Dim). at_depth (suc depth) (dim_text d)) p.prologue in
      let lines = lines_text (suc depth) p.lines in
      let whole = body p.head p.prologue p.lines [] in
      both_taken (head ++ dims ++ lines) (at_depth depth (close_text p.close)) s (here whole) (behind (closed p))
      (both_taken (head ++ dims) lines s (here (body p.head p.prologue [] [])) (here whole)
      (both_taken head dims s (here (headed p.head)) (here (body p.head p.prologue [] [])) first
      (all_taken (λ (d : Dim). at_depth (suc depth) (dim_text d)) is_read_dim (λ (dims : List Dim). here (body p.head dims [] []))
      (dim_taken holds p.head) [] p.prologue written.dims))
      (own_lines_taken holds p.head p.prologue p.lines written.lines written.blocks))
      (line_taken depth (close_text p.close) (here whole) (behind (closed p)) (close_is p.close)
      (holds.steps whole (at_depth depth (close_text p.close)) ∙ ap (option_map behind) (close_grows depth whole p.close written.closing refl)))
