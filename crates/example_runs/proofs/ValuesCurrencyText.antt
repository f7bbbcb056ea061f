-- The program values-currency-text, what it puts out and how it ends.
use Rattle.std.proofs.Common.{◌≡◌, refl, ◌++◌, List, ℤ, pos, Bool, true, false, [], ◌∷◌, codes, Some, None}
use Rattle.vb_tree.specs.declared.declared.VarId.{VarId}
use Rattle.bound_tree.specs.Tree as bound
use Rattle.net_tree.specs.Tree as net
use Rattle.net_tree.specs.Types as net_types
use Rattle.vb_tree.specs.BoundTree as types
use Rattle.vb_tree.specs.Tree as vb
use Rattle.vb_tree.specs.declared.expression.BinOp.TheVariants as bin
use Rattle.net_tree.specs.declared.declaration.NetClose.TheVariants as close
use Rattle.vb_tree.specs.declared.declared.ProcKind.TheVariants as kind
use Rattle.vb_tree.specs.declared.token.Literal6.TheVariants as literal
use Rattle.bound_tree.specs.declared.body.Mention.TheVariants as mention
use Rattle.bound_tree.specs.declared.declared.Named.TheVariants as named
use Rattle.net_tree.specs.declared.expression.NetBin.TheVariants as net_bin
use Rattle.net_tree.specs.declared.declaration.NetPassing.TheVariants as net_passing
use Rattle.net_tree.specs.declared.expression.NetUn.TheVariants as net_un
use Rattle.net_tree.specs.declared.declaration.NetVisibility.TheVariants as net_visible
use Rattle.bound_tree.specs.declared.expression.Origin.TheVariants as origin
use Rattle.vb_tree.specs.declared.declared.Owner.TheVariants as owner
use Rattle.vb_tree.specs.declared.project.ProjectKind.TheVariants as project_kind
use Rattle.bound_tree.specs.declared.declared.Scope.TheVariants as scope
use Rattle.vb_tree.specs.declared.token.Suffix.TheVariants as suffix
use Rattle.vb_tree.specs.declared.expression.UnOp.TheVariants as un
use Rattle.vb_tree.specs.declared.value.Value6.TheVariants as value
use Rattle.vb_tree.specs.declared.form_parts.VarWord.TheVariants as var
use Rattle.vb_tree.specs.declared.form_parts.Visibility.TheVariants as visible
use Rattle.std.specs.Fmt.{digits}
use Rattle.example_runs.proofs.Said.{ended, line, ran, ran_written, runnable_of}
use Rattle.vb6_run.specs.Runnables.{Runnable}

abbrev pub project : vb.Project
project = (record {
  file = (record {
    kind = project_kind.Exe;
    startup = (Some (3, (codes "Sub Main")));
    entries = ((record
        { line = 2; class = false; name = (codes "Main1"); file = (codes "Main1.bas") }) ∷ []);
    dropped = ([]);
  });
  modules = ((record {
    file = 1;
    name = (codes "Main1");
    class = false;
    members = (
        (vb.proc (record {
          place = (record { file = 1; line = 1 });
          text = (codes "Sub Main()");
          form = (vb.sub_head (record {
            visibility = None;
            name = (codes "Main");
            suffix = suffix.Absent;
            params = ([]);
          }));
        }) (vb.next_node
        (vb.line (record {
          place = (record { file = 1; line = 2 });
          text = (codes "Dim c As Currency");
          form = (vb.variables
              var.Dim ((record {
                name = (codes "c");
                suffix = suffix.Absent;
                bounds = None;
                auto = false;
                ty = (Some (vb.named (codes
                    "Currency")));
              }) ∷ []));
        })) (vb.next_node
        (vb.line (record {
          place = (record { file = 1; line = 3 });
          text = (codes "c = 1.5");
          form = (vb.assign (vb.word (codes
              "c") suffix.Absent) (vb.lit (literal.Plain (pos 15000))));
        })) (vb.next_node
        (vb.line (record {
          place = (record { file = 1; line = 4 });
          text = (68 ∷ 101 ∷ 98 ∷ 117 ∷ 103 ∷ 46 ∷ 80 ∷ 114 ∷ 105
              ∷ 110 ∷ 116 ∷ 32 ∷ 99 ∷ 59 ∷ 32 ∷ 45 ∷ 99 ∷ 59 ∷ 32 ∷ 99 ∷ 32 ∷ 42 ∷ 32 ∷ 51 ∷ 59 ∷ 32 ∷ 99 ∷ 32 ∷ 38 ∷ 32 ∷ 34 ∷ 120
              ∷ 34 ∷ []);
          form = (vb.debug_print ((vb.word (codes "c") suffix.Absent) ∷ (vb.unary un.Neg (vb.word (codes "c") suffix.Absent))
              ∷ (vb.binary bin.Mul (vb.word (codes "c") suffix.Absent) (vb.lit (literal.Int (pos 3) false))) ∷ (vb.binary bin.Concat
              (vb.word (codes "c") suffix.Absent) (vb.lit (literal.Str (codes "x")))) ∷ []) false);
        })) (vb.next_node
        (vb.line (record {
          place = (record { file = 1; line = 5 });
          text = (codes "c = 100");
          form = (vb.assign (vb.word (codes
              "c") suffix.Absent) (vb.lit (literal.Int (pos 100) false)));
        })) (vb.next_node
        (vb.line (record {
          place = (record { file = 1; line = 6 });
          text = (68 ∷ 101 ∷ 98 ∷ 117 ∷ 103 ∷ 46 ∷ 80 ∷ 114 ∷ 105
              ∷ 110 ∷ 116 ∷ 32 ∷ 99 ∷ 59 ∷ 32 ∷ 99 ∷ 32 ∷ 38 ∷ 32 ∷ 34 ∷ 34 ∷ []);
          form = (vb.debug_print ((vb.word (codes "c") suffix.Absent)
              ∷ (vb.binary bin.Concat (vb.word (codes "c") suffix.Absent) (vb.lit (literal.Str []))) ∷ []) false);
        })) (vb.next_node
        (vb.line (record {
          place = (record { file = 1; line = 7 });
          text = (codes "c = 0.0001");
          form = (vb.assign (vb.word
              (codes "c") suffix.Absent) (vb.lit (literal.Plain (pos 1))));
        })) (vb.next_node
        (vb.line (record {
          place = (record { file = 1; line = 8 });
          text = (codes "Debug.Print c; -c");
          form = (vb.debug_print
              ((vb.word (codes "c") suffix.Absent) ∷ (vb.unary un.Neg (vb.word (codes "c") suffix.Absent)) ∷ []) false);
        })) (vb.next_node
        (vb.line (record {
          place = (record { file = 1; line = 9 });
          text = (codes "c = 922337203685477@");
          form = (vb.assign
              (vb.word (codes "c") suffix.Absent) (vb.lit (literal.Cur (pos 9223372036854770000))));
        })) (vb.next_node
        (vb.line (record {
          place = (record { file = 1; line = 10 });
          text = (codes "Debug.Print c");
          form = (vb.debug_print
              ((vb.word (codes "c") suffix.Absent) ∷ []) false);
        })) (vb.next_node
        (vb.line (record {
          place = (record { file = 1; line = 11 });
          text = (codes "c = -922337203685477.5807@ - 0.0001@");
          form = (vb.assign (vb.word (codes "c") suffix.Absent) (vb.binary bin.Sub (vb.unary un.Neg (vb.lit (literal.Cur (pos 9223372036854775807))))
              (vb.lit (literal.Cur (pos 1)))));
        })) (vb.next_node
        (vb.line (record {
          place = (record { file = 1; line = 12 });
          text = (codes "Debug.Print c");
          form = (vb.debug_print
              ((vb.word (codes "c") suffix.Absent) ∷ []) false);
        })) vb.no_nodes))))))))))) (record {
          place = (record {
            file = 1;
            line
                = 13;
          });
          text = (codes "End Sub");
          form = vb.end_sub;
        })) ∷ []);
    comments = ([]);
  }) ∷ []);
})

abbrev pub declarations : bound.Declarations
declarations = (record {
  project = project;
  names = (
      (record { name = (codes "Main"); scope = (scope.Public 1); named = (named.Proc (record { 0 = 0 })) }) ∷
      (record { name = (codes "c"); scope = (scope.Local (record { 0 = 0 })); named = (named.Var (record { 0 = 0 })) }) ∷ []);
  vars = (
      (record {
        name = (codes "c");
        place = (record { file = 1; line = 2 });
        statement = 1;
        owner = (owner.Local (record {
          0
              = 0;
        }));
        ty = types.currency;
        named = types.currency;
        qualified = false;
        lettered = None;
        bounds = ([]);
        auto = false;
        preset = None;
      }) ∷ []);
  consts = ([]);
  procs = (
      (record {
        name = (codes "Main");
        place = (record { file = 1; line = 1 });
        module_number = 1;
        kind = kind.Sub;
        visibility
            = visible.Public;
        params = ([]);
        result = types.nothing;
        answer = None;
        first = (record { 0 = 0 });
      }) ∷ []);
  types = ([]);
  enums = ([]);
  defaults = ([]);
})

abbrev pub body_0 : List bound.Line
body_0 = (
    (record {
      source = (record {
        place = (record { file = 1; line = 3 });
        text = (codes "c = 1.5");
        form = (vb.assign (vb.word
            (codes "c") suffix.Absent) (vb.lit (literal.Plain (pos 15000))));
      });
      bindings = (record {
        exprs = ((bound.typed types.currency
            (bound.variable (record { 0 = 0 }) false)) ∷ (bound.typed types.currency (bound.constant (value.Cur (pos 15000)) origin.Literal))
            ∷ []);
        rules = (record { bits = 0 });
        mentions = ((mention.Var (record { 0 = 0 })) ∷ []);
      });
    }) ∷
    (record {
      source = (record {
        place = (record { file = 1; line = 4 });
        text = (68 ∷ 101 ∷ 98 ∷ 117 ∷ 103 ∷ 46 ∷ 80 ∷ 114
            ∷ 105 ∷ 110 ∷ 116 ∷ 32 ∷ 99 ∷ 59 ∷ 32 ∷ 45 ∷ 99 ∷ 59 ∷ 32 ∷ 99 ∷ 32 ∷ 42 ∷ 32 ∷ 51 ∷ 59 ∷ 32 ∷ 99 ∷ 32 ∷ 38 ∷ 32 ∷ 34
            ∷ 120 ∷ 34 ∷ []);
        form = (vb.debug_print ((vb.word (codes "c") suffix.Absent) ∷ (vb.unary un.Neg (vb.word (codes "c")
            suffix.Absent)) ∷ (vb.binary bin.Mul (vb.word (codes "c") suffix.Absent) (vb.lit (literal.Int (pos 3) false))) ∷ (vb.binary
            bin.Concat (vb.word (codes "c") suffix.Absent) (vb.lit (literal.Str (codes "x")))) ∷ []) false);
      });
      bindings = (record {
        exprs = ((bound.typed types.currency (bound.variable (record { 0 = 0 }) false)) ∷ (bound.typed types.currency (bound.unary
            un.Neg (bound.typed types.currency (bound.variable (record { 0 = 0 }) false)))) ∷ (bound.typed types.currency (bound.binary
            bin.Mul (bound.typed types.currency (bound.variable (record { 0 = 0 }) false)) (bound.typed types.integer (bound.constant
            (value.Int (pos 3)) origin.Literal)))) ∷ (bound.typed types.str (bound.binary bin.Concat (bound.typed types.str (bound.convert
            types.str (bound.typed types.currency (bound.variable (record { 0 = 0 }) false)))) (bound.typed types.str (bound.constant
            (value.Str (codes "x")) origin.Literal)))) ∷ []);
        rules = (record { bits = 0 });
        mentions = ((mention.Var (record {
          0
              = 0;
        })) ∷ (mention.Var (record { 0 = 0 })) ∷ (mention.Var (record { 0 = 0 })) ∷ (mention.Var (record { 0 = 0 })) ∷ []);
      });
    }) ∷
    (record {
      source = (record {
        place = (record { file = 1; line = 5 });
        text = (codes "c = 100");
        form = (vb.assign (vb.word
            (codes "c") suffix.Absent) (vb.lit (literal.Int (pos 100) false)));
      });
      bindings = (record {
        exprs = ((bound.typed types.currency
            (bound.variable (record { 0 = 0 }) false)) ∷ (bound.typed types.currency (bound.convert types.currency (bound.typed types.integer
            (bound.constant (value.Int (pos 100)) origin.Literal)))) ∷ []);
        rules = (record { bits = 0 });
        mentions = ((mention.Var
            (record { 0 = 0 })) ∷ []);
      });
    }) ∷
    (record {
      source = (record {
        place = (record { file = 1; line = 6 });
        text = (68 ∷ 101 ∷ 98 ∷ 117 ∷ 103 ∷ 46 ∷ 80 ∷ 114
            ∷ 105 ∷ 110 ∷ 116 ∷ 32 ∷ 99 ∷ 59 ∷ 32 ∷ 99 ∷ 32 ∷ 38 ∷ 32 ∷ 34 ∷ 34 ∷ []);
        form = (vb.debug_print ((vb.word (codes "c")
            suffix.Absent) ∷ (vb.binary bin.Concat (vb.word (codes "c") suffix.Absent) (vb.lit (literal.Str []))) ∷ []) false);
      });
      bindings = (record {
        exprs = ((bound.typed types.currency (bound.variable (record { 0 = 0 }) false)) ∷ (bound.typed types.str
            (bound.binary bin.Concat (bound.typed types.str (bound.convert types.str (bound.typed types.currency (bound.variable (record
            { 0 = 0 }) false)))) (bound.typed types.str (bound.constant (value.Str []) origin.Literal)))) ∷ []);
        rules = (record {
          bits = 0;
        });
        mentions = ((mention.Var (record { 0 = 0 })) ∷ (mention.Var (record { 0 = 0 })) ∷ []);
      });
    }) ∷
    (record {
      source = (record {
        place = (record { file = 1; line = 7 });
        text = (codes "c = 0.0001");
        form = (vb.assign (vb.word
            (codes "c") suffix.Absent) (vb.lit (literal.Plain (pos 1))));
      });
      bindings = (record {
        exprs = ((bound.typed types.currency
            (bound.variable (record { 0 = 0 }) false)) ∷ (bound.typed types.currency (bound.constant (value.Cur (pos 1)) origin.Literal))
            ∷ []);
        rules = (record { bits = 0 });
        mentions = ((mention.Var (record { 0 = 0 })) ∷ []);
      });
    }) ∷
    (record {
      source = (record {
        place = (record { file = 1; line = 8 });
        text = (codes "Debug.Print c; -c");
        form = (vb.debug_print
            ((vb.word (codes "c") suffix.Absent) ∷ (vb.unary un.Neg (vb.word (codes "c") suffix.Absent)) ∷ []) false);
      });
      bindings
          = (record {
            exprs = ((bound.typed types.currency (bound.variable (record { 0 = 0 }) false)) ∷ (bound.typed types.currency
                (bound.unary un.Neg (bound.typed types.currency (bound.variable (record { 0 = 0 }) false)))) ∷ []);
            rules = (record {
              bits = 0;
            });
            mentions = ((mention.Var (record { 0 = 0 })) ∷ (mention.Var (record { 0 = 0 })) ∷ []);
          });
    }) ∷
    (record {
      source = (record {
        place = (record { file = 1; line = 9 });
        text = (codes "c = 922337203685477@");
        form = (vb.assign
            (vb.word (codes "c") suffix.Absent) (vb.lit (literal.Cur (pos 9223372036854770000))));
      });
      bindings = (record {
        exprs =
            ((bound.typed types.currency (bound.variable (record { 0 = 0 }) false)) ∷ (bound.typed types.currency (bound.constant
            (value.Cur (pos 9223372036854770000)) origin.Literal)) ∷ []);
        rules = (record { bits = 0 });
        mentions = ((mention.Var
            (record { 0 = 0 })) ∷ []);
      });
    }) ∷
    (record {
      source = (record {
        place = (record { file = 1; line = 10 });
        text = (codes "Debug.Print c");
        form = (vb.debug_print
            ((vb.word (codes "c") suffix.Absent) ∷ []) false);
      });
      bindings = (record {
        exprs = ((bound.typed types.currency (bound.variable
            (record { 0 = 0 }) false)) ∷ []);
        rules = (record { bits = 0 });
        mentions = ((mention.Var (record { 0 = 0 })) ∷ []);
      });
    }) ∷
    (record {
      source = (record {
        place = (record { file = 1; line = 11 });
        text = (codes "c = -922337203685477.5807@ - 0.0001@");
        form = (vb.assign (vb.word (codes "c") suffix.Absent) (vb.binary bin.Sub (vb.unary un.Neg (vb.lit (literal.Cur (pos 9223372036854775807))))
            (vb.lit (literal.Cur (pos 1)))));
      });
      bindings = (record {
        exprs = ((bound.typed types.currency (bound.variable (record
            { 0 = 0 }) false)) ∷ (bound.typed types.currency (bound.binary bin.Sub (bound.typed types.currency (bound.unary un.Neg
            (bound.typed types.currency (bound.constant (value.Cur (pos 9223372036854775807)) origin.Literal)))) (bound.typed types.currency
            (bound.constant (value.Cur (pos 1)) origin.Literal)))) ∷ []);
        rules = (record { bits = 0 });
        mentions = ((mention.Var
            (record { 0 = 0 })) ∷ []);
      });
    }) ∷
    (record {
      source = (record {
        place = (record { file = 1; line = 12 });
        text = (codes "Debug.Print c");
        form = (vb.debug_print
            ((vb.word (codes "c") suffix.Absent) ∷ []) false);
      });
      bindings = (record {
        exprs = ((bound.typed types.currency (bound.variable
            (record { 0 = 0 }) false)) ∷ []);
        rules = (record { bits = 0 });
        mentions = ((mention.Var (record { 0 = 0 })) ∷ []);
      });
    }) ∷ [])

abbrev pub bodies : List (List bound.Line)
bodies = body_0 ∷ []

abbrev pub program : bound.Program
program = record { declarations = declarations; bodies = bodies }

abbrev pub quiet : List (List Bool)
quiet = (([]) ∷ [])

abbrev pub lows : List (VarId × ℤ × ℤ)
lows = ([])

abbrev pub clean : List Bool
clean = (true ∷ [])

abbrev pub written : net.Project
written = (record {
  library = false;
  main = (Some (codes "Main1"));
  note = None;
  modules = ((record {
    name = (codes "Main1");
    class = false;
    members = (
        (net.proc (record {
          head = (net.sub net_visible.Public (codes "Main") ([]));
          prologue = (
              (net.local (record { name = (codes "c"); ty = net_types.decimal; value = None })) ∷ []);
          lines = (
              (net.assign (net.path ((codes "c") ∷ [])) (net.lit (net.decimal (pos 15000)))) ∷
              (net.call (net.path ((codes "UpgradeSupport") ∷ (codes "PrintLine") ∷ [])) (net.next_exp (net.binary net_bin.Concat (net.binary
              net_bin.Concat (net.binary net_bin.Concat (net.call_of (net.path ((codes "UpgradeSupport") ∷ (codes "PrintNum") ∷ []))
              (net.next_exp (net.path ((codes "c") ∷ [])) net.no_exps)) (net.call_of (net.path ((codes "UpgradeSupport") ∷ (codes "PrintNum")
              ∷ [])) (net.next_exp (net.call_of (net.path ((codes "UpgradeSupport") ∷ (codes "Cur") ∷ [])) (net.next_exp (net.unary
              net_un.Neg (net.path ((codes "c") ∷ []))) net.no_exps)) net.no_exps))) (net.call_of (net.path ((codes "UpgradeSupport")
              ∷ (codes "PrintNum") ∷ [])) (net.next_exp (net.call_of (net.path ((codes "UpgradeSupport") ∷ (codes "Cur") ∷ [])) (net.next_exp
              (net.binary net_bin.Mul (net.path ((codes "c") ∷ [])) (net.lit (net.decimal (pos 30000)))) net.no_exps)) net.no_exps)))
              (net.binary net_bin.Concat (net.call_of (net.path ((codes "UpgradeSupport") ∷ (codes "CurText") ∷ [])) (net.next_exp (net.path
              ((codes "c") ∷ [])) net.no_exps)) (net.lit (net.str (codes "x"))))) net.no_exps)) ∷
              (net.assign (net.path ((codes "c") ∷ [])) (net.lit (net.decimal (pos 1000000)))) ∷
              (net.call (net.path ((codes "UpgradeSupport") ∷ (codes "PrintLine") ∷ [])) (net.next_exp (net.binary net_bin.Concat (net.call_of
              (net.path ((codes "UpgradeSupport") ∷ (codes "PrintNum") ∷ [])) (net.next_exp (net.path ((codes "c") ∷ [])) net.no_exps))
              (net.binary net_bin.Concat (net.call_of (net.path ((codes "UpgradeSupport") ∷ (codes "CurText") ∷ [])) (net.next_exp (net.path
              ((codes "c") ∷ [])) net.no_exps)) (net.lit (net.str [])))) net.no_exps)) ∷
              (net.assign (net.path ((codes "c") ∷ [])) (net.lit (net.decimal (pos 1)))) ∷
              (net.call (net.path ((codes "UpgradeSupport") ∷ (codes "PrintLine") ∷ [])) (net.next_exp (net.binary net_bin.Concat (net.call_of
              (net.path ((codes "UpgradeSupport") ∷ (codes "PrintNum") ∷ [])) (net.next_exp (net.path ((codes "c") ∷ [])) net.no_exps))
              (net.call_of (net.path ((codes "UpgradeSupport") ∷ (codes "PrintNum") ∷ [])) (net.next_exp (net.call_of (net.path ((codes
              "UpgradeSupport") ∷ (codes "Cur") ∷ [])) (net.next_exp (net.unary net_un.Neg (net.path ((codes "c") ∷ []))) net.no_exps))
              net.no_exps))) net.no_exps)) ∷
              (net.assign (net.path ((codes "c") ∷ [])) (net.lit (net.decimal (pos 9223372036854770000)))) ∷
              (net.call (net.path ((codes "UpgradeSupport") ∷ (codes "PrintLine") ∷ [])) (net.next_exp (net.call_of (net.path ((codes
              "UpgradeSupport") ∷ (codes "PrintNum") ∷ [])) (net.next_exp (net.path ((codes "c") ∷ [])) net.no_exps)) net.no_exps))
              ∷
              (net.assign (net.path ((codes "c") ∷ [])) (net.call_of (net.path ((codes "UpgradeSupport") ∷ (codes "Cur") ∷ [])) (net.next_exp
              (net.binary net_bin.Sub (net.call_of (net.path ((codes "UpgradeSupport") ∷ (codes "Cur") ∷ [])) (net.next_exp (net.unary
              net_un.Neg (net.lit (net.decimal (pos 9223372036854775807)))) net.no_exps)) (net.lit (net.decimal (pos 1)))) net.no_exps)))
              ∷
              (net.call (net.path ((codes "UpgradeSupport") ∷ (codes "PrintLine") ∷ [])) (net.next_exp (net.call_of (net.path ((codes
              "UpgradeSupport") ∷ (codes "PrintNum") ∷ [])) (net.next_exp (net.path ((codes "c") ∷ [])) net.no_exps)) net.no_exps))
              ∷ []);
          close = close.EndSub;
        })) ∷ []);
  }) ∷ []);
  support = (record {
    name = (codes "UpgradeSupport");
    class = false;
    members
        = (
        (net.proc (record {
          head = (net.sub net_visible.Public (codes "PrintLine") ((record {
            passing = net_passing.Value;
            name
                = (codes "s");
            ty = net_types.str;
          }) ∷ []));
          prologue = ([]);
          lines = (
              (net.call (net.path ((codes "System") ∷ (codes "Console") ∷ (codes "WriteLine") ∷ [])) (net.next_exp (net.path ((codes
              "s") ∷ [])) net.no_exps)) ∷ []);
          close = close.EndSub;
        })) ∷
        (net.proc (record {
          head = (net.function net_visible.Public (codes "CurText") ((record {
            passing = net_passing.Value;
            name = (codes "d");
            ty = net_types.decimal;
          }) ∷ []) net_types.str);
          prologue = ([]);
          lines = (
              (net.assign (net.path ((codes "CurText") ∷ [])) (net.call_of (net.path ((codes "d") ∷ (codes "ToString") ∷ [])) (net.next_exp
              (net.lit (net.str (codes "0.####"))) (net.next_exp (net.path ((codes "System") ∷ (codes "Globalization") ∷ (codes "CultureInfo")
              ∷ (codes "InvariantCulture") ∷ [])) net.no_exps)))) ∷ []);
          close = close.EndFunction;
        })) ∷
        (net.proc (record {
          head = (net.function net_visible.Public (codes "PrintNum") ((record {
            passing = net_passing.Value;
            name = (codes "d");
            ty = net_types.decimal;
          }) ∷ []) net_types.str);
          prologue = ([]);
          lines = (
              (net.if_head (net.binary net_bin.Less (net.path ((codes "d") ∷ [])) (net.lit (net.decimal (pos 0))))) ∷
              (net.assign (net.path ((codes "PrintNum") ∷ [])) (net.binary net_bin.Concat (net.call_of (net.path ((codes "CurText")
              ∷ [])) (net.next_exp (net.path ((codes "d") ∷ [])) net.no_exps)) (net.lit (net.str (codes " "))))) ∷
              net.else_line ∷
              (net.assign (net.path ((codes "PrintNum") ∷ [])) (net.binary net_bin.Concat (net.binary net_bin.Concat (net.lit (net.str
              (codes " "))) (net.call_of (net.path ((codes "CurText") ∷ [])) (net.next_exp (net.path ((codes "d") ∷ [])) net.no_exps)))
              (net.lit (net.str (codes " "))))) ∷
              net.end_if ∷ []);
          close = close.EndFunction;
        })) ∷
        (net.proc (record {
          head = (net.function net_visible.Public (codes "Cur") ((record {
            passing = net_passing.Value;
            name
                = (codes "d");
            ty = net_types.decimal;
          }) ∷ []) net_types.decimal);
          prologue = ([]);
          lines = (
              (net.if_head (net.binary net_bin.Or (net.binary net_bin.Less (net.path ((codes "d") ∷ [])) (net.unary net_un.Neg (net.lit
              (net.decimal (pos 9223372036854775808))))) (net.binary net_bin.Greater (net.path ((codes "d") ∷ [])) (net.lit (net.decimal
              (pos 9223372036854775807)))))) ∷
              (net.call (net.path ((codes "Raise") ∷ [])) (net.next_exp (net.lit (net.integer (pos 6) false)) net.no_exps)) ∷
              net.end_if ∷
              (net.assign (net.path ((codes "Cur") ∷ [])) (net.path ((codes "d") ∷ []))) ∷ []);
          close = close.EndFunction;
        })) ∷
        (net.proc (record {
          head = (net.sub net_visible.Public (codes "Raise") ((record {
            passing = net_passing.Value;
            name =
                (codes "n");
            ty = net_types.integer;
          }) ∷ []));
          prologue = ([]);
          lines = (
              (net.call (net.dot (net.call_of (net.path ((codes "Microsoft") ∷ (codes "VisualBasic") ∷ (codes "Information") ∷ (codes
              "Err") ∷ [])) net.no_exps) (codes "Raise")) (net.next_exp (net.path ((codes "n") ∷ [])) net.no_exps)) ∷ []);
          close = close.EndSub;
        })) ∷ []);
  });
})

abbrev pub runnable : Runnable
runnable = runnable_of program quiet lows

said : ran runnable 0 2000 ≡ (
  line (codes " 1.5 -1.5  4.5 1.5x")
      ++ line (codes " 100 100")
      ++ line (codes " 0.0001 -0.0001 ")
      ++ line (codes " 922337203685477 ")
      ++ line (codes "-922337203685477.5808 "),
  ended,
)
unfolding digits
said = refl

said_written : ran_written written 0 2000 ≡ (
  line (codes " 1.5 -1.5  4.5 1.5x")
      ++ line (codes " 100 100")
      ++ line (codes " 0.0001 -0.0001 ")
      ++ line (codes " 922337203685477 ")
      ++ line (codes "-922337203685477.5808 "),
  ended,
)
unfolding digits
said_written = refl
