-- The program print-formats, what it puts out and how it ends.
use Rattle.std.proofs.Common.{◌≡◌, refl, ◌++◌, List, ℤ, pos, Bool, true, false, [], ◌∷◌, codes, Some, None}
use Rattle.vb_tree.specs.declared.declared.VarId.{VarId}
use Rattle.bound_tree.specs.Tree as bound
use Rattle.net_tree.specs.Tree as net
use Rattle.net_tree.specs.Types as net_types
use Rattle.vb_tree.specs.BoundTree as types
use Rattle.vb_tree.specs.Tree as vb
use Rattle.net_tree.specs.declared.expression.CastWord.TheVariants as cast
use Rattle.net_tree.specs.declared.declaration.NetClose.TheVariants as close
use Rattle.vb_tree.specs.declared.declared.ProcKind.TheVariants as kind
use Rattle.vb_tree.specs.declared.token.Literal6.TheVariants as literal
use Rattle.bound_tree.specs.declared.body.Mention.TheVariants as mention
use Rattle.bound_tree.specs.declared.declared.Named.TheVariants as named
use Rattle.net_tree.specs.declared.expression.NetBin.TheVariants as net_bin
use Rattle.net_tree.specs.declared.declaration.NetPassing.TheVariants as net_passing
use Rattle.net_tree.specs.declared.expression.NetUn.TheVariants as net_un
use Rattle.net_tree.specs.declared.declaration.NetVisibility.TheVariants as net_visible
use Rattle.bound_tree.specs.declared.expression.Origin.TheVariants as origin
use Rattle.vb_tree.specs.declared.declared.Owner.TheVariants as owner
use Rattle.vb_tree.specs.declared.project.ProjectKind.TheVariants as project_kind
use Rattle.bound_tree.specs.declared.declared.Scope.TheVariants as scope
use Rattle.vb_tree.specs.declared.token.Suffix.TheVariants as suffix
use Rattle.vb_tree.specs.declared.expression.UnOp.TheVariants as un
use Rattle.vb_tree.specs.declared.value.Value6.TheVariants as value
use Rattle.vb_tree.specs.declared.form_parts.VarWord.TheVariants as var
use Rattle.vb_tree.specs.declared.form_parts.Visibility.TheVariants as visible
use Rattle.std.specs.Fmt.{digits}
use Rattle.example_runs.proofs.Said.{ended, line, ran, runnable_of}
use Rattle.vb6_run.specs.Runnables.{Runnable}

abbrev pub project : vb.Project
project = (record {
  file = (record {
    kind = project_kind.Exe;
    startup = (Some (3, (codes "Sub Main")));
    entries = ((record
        { line = 2; class = false; name = (codes "Main1"); file = (codes "Main1.bas") }) ∷ []);
    dropped = ([]);
  });
  modules = ((record {
    file = 1;
    name = (codes "Main1");
    class = false;
    members = (
        (vb.proc (record {
          place = (record { file = 1; line = 1 });
          text = (codes "Sub Main()");
          form = (vb.sub_head (record {
            visibility = None;
            name = (codes "Main");
            suffix = suffix.Absent;
            params = ([]);
          }));
        }) (vb.next_node
        (vb.line (record {
          place = (record { file = 1; line = 2 });
          text = (codes "Dim c As Currency");
          form = (vb.variables
              var.Dim ((record {
                name = (codes "c");
                suffix = suffix.Absent;
                bounds = None;
                auto = false;
                ty = (Some (vb.named (codes
                    "Currency")));
              }) ∷ []));
        })) (vb.next_node
        (vb.line (record {
          place = (record { file = 1; line = 3 });
          text = (codes "Debug.Print 5; -5; 0; 70000; -70000");
          form
              = (vb.debug_print ((vb.lit (literal.Int (pos 5) false)) ∷ (vb.unary un.Neg (vb.lit (literal.Int (pos 5) false))) ∷ (vb.lit
              (literal.Int (pos 0) false)) ∷ (vb.lit (literal.Long (pos 70000) false)) ∷ (vb.unary un.Neg (vb.lit (literal.Long (pos
              70000) false))) ∷ []) false);
        })) (vb.next_node
        (vb.line (record {
          place = (record { file = 1; line = 4 });
          text = (68 ∷ 101 ∷ 98 ∷ 117 ∷ 103 ∷ 46 ∷ 80 ∷ 114 ∷ 105
              ∷ 110 ∷ 116 ∷ 32 ∷ 84 ∷ 114 ∷ 117 ∷ 101 ∷ 59 ∷ 32 ∷ 70 ∷ 97 ∷ 108 ∷ 115 ∷ 101 ∷ 59 ∷ 32 ∷ 34 ∷ 97 ∷ 34 ∷ 59 ∷ 32 ∷ 34
              ∷ 98 ∷ 34 ∷ []);
          form = (vb.debug_print ((vb.word (codes "True") suffix.Absent) ∷ (vb.word (codes "False") suffix.Absent)
              ∷ (vb.lit (literal.Str (codes "a"))) ∷ (vb.lit (literal.Str (codes "b"))) ∷ []) false);
        })) (vb.next_node
        (vb.line (record {
          place = (record { file = 1; line = 5 });
          text = (codes "Debug.Print");
          form = (vb.debug_print ([])
              false);
        })) (vb.next_node
        (vb.line (record {
          place = (record { file = 1; line = 6 });
          text = (codes "Debug.Print ;");
          form = (vb.debug_print ([])
              true);
        })) (vb.next_node
        (vb.line (record {
          place = (record { file = 1; line = 7 });
          text = (68 ∷ 101 ∷ 98 ∷ 117 ∷ 103 ∷ 46 ∷ 80 ∷ 114 ∷ 105
              ∷ 110 ∷ 116 ∷ 32 ∷ 34 ∷ 97 ∷ 34 ∷ 59 ∷ []);
          form = (vb.debug_print ((vb.lit (literal.Str (codes "a"))) ∷ []) true);
        }))
        (vb.next_node
        (vb.line (record {
          place = (record { file = 1; line = 8 });
          text = (68 ∷ 101 ∷ 98 ∷ 117 ∷ 103 ∷ 46 ∷ 80 ∷ 114 ∷ 105
              ∷ 110 ∷ 116 ∷ 32 ∷ 34 ∷ 98 ∷ 34 ∷ []);
          form = (vb.debug_print ((vb.lit (literal.Str (codes "b"))) ∷ []) false);
        })) (vb.next_node
        (vb.line (record {
          place = (record { file = 1; line = 9 });
          text = (codes "c = 1234.5");
          form = (vb.assign (vb.word
              (codes "c") suffix.Absent) (vb.lit (literal.Plain (pos 12345000))));
        })) (vb.next_node
        (vb.line (record {
          place = (record { file = 1; line = 10 });
          text = (codes "Debug.Print c; -c");
          form = (vb.debug_print
              ((vb.word (codes "c") suffix.Absent) ∷ (vb.unary un.Neg (vb.word (codes "c") suffix.Absent)) ∷ []) false);
        })) vb.no_nodes)))))))))
        (record { place = (record { file = 1; line = 11 }); text = (codes "End Sub"); form = vb.end_sub })) ∷ []);
    comments =
        ([]);
  }) ∷ []);
})

abbrev pub declarations : bound.Declarations
declarations = (record {
  project = project;
  names = (
      (record { name = (codes "Main"); scope = (scope.Public 1); named = (named.Proc (record { 0 = 0 })) }) ∷
      (record { name = (codes "c"); scope = (scope.Local (record { 0 = 0 })); named = (named.Var (record { 0 = 0 })) }) ∷ []);
  vars = (
      (record {
        name = (codes "c");
        place = (record { file = 1; line = 2 });
        statement = 1;
        owner = (owner.Local (record {
          0
              = 0;
        }));
        ty = types.currency;
        named = types.currency;
        qualified = false;
        lettered = None;
        bounds = ([]);
        auto = false;
        preset = None;
      }) ∷ []);
  consts = ([]);
  procs = (
      (record {
        name = (codes "Main");
        place = (record { file = 1; line = 1 });
        module_number = 1;
        kind = kind.Sub;
        visibility
            = visible.Public;
        params = ([]);
        result = types.nothing;
        answer = None;
        first = (record { 0 = 0 });
      }) ∷ []);
  types = ([]);
  enums = ([]);
  defaults = ([]);
})

abbrev pub body_0 : List bound.Line
body_0 = (
    (record {
      source = (record {
        place = (record { file = 1; line = 3 });
        text = (codes "Debug.Print 5; -5; 0; 70000; -70000");
        form = (vb.debug_print ((vb.lit (literal.Int (pos 5) false)) ∷ (vb.unary un.Neg (vb.lit (literal.Int (pos 5) false)))
            ∷ (vb.lit (literal.Int (pos 0) false)) ∷ (vb.lit (literal.Long (pos 70000) false)) ∷ (vb.unary un.Neg (vb.lit (literal.Long
            (pos 70000) false))) ∷ []) false);
      });
      bindings = (record {
        exprs = ((bound.typed types.integer (bound.constant (value.Int
            (pos 5)) origin.Literal)) ∷ (bound.typed types.integer (bound.unary un.Neg (bound.typed types.integer (bound.constant
            (value.Int (pos 5)) origin.Literal)))) ∷ (bound.typed types.integer (bound.constant (value.Int (pos 0)) origin.Literal))
            ∷ (bound.typed types.long (bound.constant (value.Long (pos 70000)) origin.Literal)) ∷ (bound.typed types.long (bound.unary
            un.Neg (bound.typed types.long (bound.constant (value.Long (pos 70000)) origin.Literal)))) ∷ []);
        rules = (record {
          bits
              = 0;
        });
        mentions = ([]);
      });
    }) ∷
    (record {
      source = (record {
        place = (record { file = 1; line = 4 });
        text = (68 ∷ 101 ∷ 98 ∷ 117 ∷ 103 ∷ 46 ∷ 80 ∷ 114
            ∷ 105 ∷ 110 ∷ 116 ∷ 32 ∷ 84 ∷ 114 ∷ 117 ∷ 101 ∷ 59 ∷ 32 ∷ 70 ∷ 97 ∷ 108 ∷ 115 ∷ 101 ∷ 59 ∷ 32 ∷ 34 ∷ 97 ∷ 34 ∷ 59 ∷ 32
            ∷ 34 ∷ 98 ∷ 34 ∷ []);
        form = (vb.debug_print ((vb.word (codes "True") suffix.Absent) ∷ (vb.word (codes "False") suffix.Absent)
            ∷ (vb.lit (literal.Str (codes "a"))) ∷ (vb.lit (literal.Str (codes "b"))) ∷ []) false);
      });
      bindings = (record {
        exprs
            = ((bound.typed types.boolean (bound.constant (value.Boolean true) origin.Literal)) ∷ (bound.typed types.boolean (bound.constant
            (value.Boolean false) origin.Literal)) ∷ (bound.typed types.str (bound.constant (value.Str (codes "a")) origin.Literal))
            ∷ (bound.typed types.str (bound.constant (value.Str (codes "b")) origin.Literal)) ∷ []);
        rules = (record { bits = 0 });
        mentions = ([]);
      });
    }) ∷
    (record {
      source = (record {
        place = (record { file = 1; line = 5 });
        text = (codes "Debug.Print");
        form = (vb.debug_print
            ([]) false);
      });
      bindings = (record { exprs = ([]); rules = (record { bits = 0 }); mentions = ([]) });
    }) ∷
    (record {
      source = (record {
        place = (record { file = 1; line = 6 });
        text = (codes "Debug.Print ;");
        form = (vb.debug_print
            ([]) true);
      });
      bindings = (record { exprs = ([]); rules = (record { bits = 0 }); mentions = ([]) });
    }) ∷
    (record {
      source = (record {
        place = (record { file = 1; line = 7 });
        text = (68 ∷ 101 ∷ 98 ∷ 117 ∷ 103 ∷ 46 ∷ 80 ∷ 114
            ∷ 105 ∷ 110 ∷ 116 ∷ 32 ∷ 34 ∷ 97 ∷ 34 ∷ 59 ∷ []);
        form = (vb.debug_print ((vb.lit (literal.Str (codes "a"))) ∷ []) true);
      });
      bindings = (record {
        exprs = ((bound.typed types.str (bound.constant (value.Str (codes "a")) origin.Literal)) ∷ []);
        rules = (record { bits = 0 });
        mentions = ([]);
      });
    }) ∷
    (record {
      source = (record {
        place = (record { file = 1; line = 8 });
        text = (68 ∷ 101 ∷ 98 ∷ 117 ∷ 103 ∷ 46 ∷ 80 ∷ 114
            ∷ 105 ∷ 110 ∷ 116 ∷ 32 ∷ 34 ∷ 98 ∷ 34 ∷ []);
        form = (vb.debug_print ((vb.lit (literal.Str (codes "b"))) ∷ []) false);
      });
      bindings = (record {
        exprs = ((bound.typed types.str (bound.constant (value.Str (codes "b")) origin.Literal)) ∷ []);
        rules
            = (record { bits = 0 });
        mentions = ([]);
      });
    }) ∷
    (record {
      source = (record {
        place = (record { file = 1; line = 9 });
        text = (codes "c = 1234.5");
        form = (vb.assign (vb.word
            (codes "c") suffix.Absent) (vb.lit (literal.Plain (pos 12345000))));
      });
      bindings = (record {
        exprs = ((bound.typed types.currency
            (bound.variable (record { 0 = 0 }) false)) ∷ (bound.typed types.currency (bound.constant (value.Cur (pos 12345000)) origin.Literal))
            ∷ []);
        rules = (record { bits = 0 });
        mentions = ((mention.Var (record { 0 = 0 })) ∷ []);
      });
    }) ∷
    (record {
      source = (record {
        place = (record { file = 1; line = 10 });
        text = (codes "Debug.Print c; -c");
        form = (vb.debug_print
            ((vb.word (codes "c") suffix.Absent) ∷ (vb.unary un.Neg (vb.word (codes "c") suffix.Absent)) ∷ []) false);
      });
      bindings
          = (record {
            exprs = ((bound.typed types.currency (bound.variable (record { 0 = 0 }) false)) ∷ (bound.typed types.currency
                (bound.unary un.Neg (bound.typed types.currency (bound.variable (record { 0 = 0 }) false)))) ∷ []);
            rules = (record {
              bits = 0;
            });
            mentions = ((mention.Var (record { 0 = 0 })) ∷ (mention.Var (record { 0 = 0 })) ∷ []);
          });
    }) ∷ [])

abbrev pub bodies : List (List bound.Line)
bodies = body_0 ∷ []

abbrev pub program : bound.Program
program = record { declarations = declarations; bodies = bodies }

abbrev pub quiet : List (List Bool)
quiet = (([]) ∷ [])

abbrev pub lows : List (VarId × ℤ × ℤ)
lows = ([])

abbrev pub clean : List Bool
clean = (true ∷ [])

abbrev pub written : net.Project
written = (record {
  library = false;
  main = (Some (codes "Main1"));
  note = None;
  modules = ((record {
    name = (codes "Main1");
    class = false;
    members = (
        (net.proc (record {
          head = (net.sub net_visible.Public (codes "Main") ([]));
          prologue = (
              (net.local (record { name = (codes "c"); ty = net_types.decimal; value = None })) ∷ []);
          lines = (
              (net.call (net.path ((codes "UpgradeSupport") ∷ (codes "PrintLine") ∷ [])) (net.next_exp (net.binary net_bin.Concat (net.binary
              net_bin.Concat (net.binary net_bin.Concat (net.binary net_bin.Concat (net.call_of (net.path ((codes "UpgradeSupport")
              ∷ (codes "PrintNum") ∷ [])) (net.next_exp (net.cast cast.CDec (net.lit (net.short (pos 5) false))) net.no_exps)) (net.call_of
              (net.path ((codes "UpgradeSupport") ∷ (codes "PrintNum") ∷ [])) (net.next_exp (net.cast cast.CDec (net.unary net_un.Neg
              (net.lit (net.short (pos 5) false)))) net.no_exps))) (net.call_of (net.path ((codes "UpgradeSupport") ∷ (codes "PrintNum")
              ∷ [])) (net.next_exp (net.cast cast.CDec (net.lit (net.short (pos 0) false))) net.no_exps))) (net.call_of (net.path ((codes
              "UpgradeSupport") ∷ (codes "PrintNum") ∷ [])) (net.next_exp (net.cast cast.CDec (net.lit (net.integer (pos 70000) false)))
              net.no_exps))) (net.call_of (net.path ((codes "UpgradeSupport") ∷ (codes "PrintNum") ∷ [])) (net.next_exp (net.cast cast.CDec
              (net.unary net_un.Neg (net.lit (net.integer (pos 70000) false)))) net.no_exps))) net.no_exps)) ∷
              (net.call (net.path ((codes "UpgradeSupport") ∷ (codes "PrintLine") ∷ [])) (net.next_exp (net.binary net_bin.Concat (net.binary
              net_bin.Concat (net.binary net_bin.Concat (net.cast cast.CStr (net.lit (net.boolean true))) (net.cast cast.CStr (net.lit
              (net.boolean false)))) (net.lit (net.str (codes "a")))) (net.lit (net.str (codes "b")))) net.no_exps)) ∷
              (net.call (net.path ((codes "UpgradeSupport") ∷ (codes "PrintLine") ∷ [])) (net.next_exp (net.lit (net.str [])) net.no_exps))
              ∷
              (net.call (net.path ((codes "UpgradeSupport") ∷ (codes "PrintPart") ∷ [])) (net.next_exp (net.lit (net.str [])) net.no_exps))
              ∷
              (net.call (net.path ((codes "UpgradeSupport") ∷ (codes "PrintPart") ∷ [])) (net.next_exp (net.lit (net.str (codes "a")))
              net.no_exps)) ∷
              (net.call (net.path ((codes "UpgradeSupport") ∷ (codes "PrintLine") ∷ [])) (net.next_exp (net.lit (net.str (codes "b")))
              net.no_exps)) ∷
              (net.assign (net.path ((codes "c") ∷ [])) (net.lit (net.decimal (pos 12345000)))) ∷
              (net.call (net.path ((codes "UpgradeSupport") ∷ (codes "PrintLine") ∷ [])) (net.next_exp (net.binary net_bin.Concat (net.call_of
              (net.path ((codes "UpgradeSupport") ∷ (codes "PrintNum") ∷ [])) (net.next_exp (net.path ((codes "c") ∷ [])) net.no_exps))
              (net.call_of (net.path ((codes "UpgradeSupport") ∷ (codes "PrintNum") ∷ [])) (net.next_exp (net.call_of (net.path ((codes
              "UpgradeSupport") ∷ (codes "Cur") ∷ [])) (net.next_exp (net.unary net_un.Neg (net.path ((codes "c") ∷ []))) net.no_exps))
              net.no_exps))) net.no_exps)) ∷ []);
          close = close.EndSub;
        })) ∷ []);
  }) ∷ []);
  support = (record {
    name = (codes "UpgradeSupport");
    class = false;
    members = (
        (net.proc (record {
          head = (net.sub net_visible.Public (codes "PrintLine") ((record {
            passing = net_passing.Value;
            name
                = (codes "s");
            ty = net_types.str;
          }) ∷ []));
          prologue = ([]);
          lines = (
              (net.call (net.path ((codes "System") ∷ (codes "Console") ∷ (codes "WriteLine") ∷ [])) (net.next_exp (net.path ((codes
              "s") ∷ [])) net.no_exps)) ∷ []);
          close = close.EndSub;
        })) ∷
        (net.proc (record {
          head = (net.sub net_visible.Public (codes "PrintPart") ((record {
            passing = net_passing.Value;
            name
                = (codes "s");
            ty = net_types.str;
          }) ∷ []));
          prologue = ([]);
          lines = (
              (net.call (net.path ((codes "System") ∷ (codes "Console") ∷ (codes "Write") ∷ [])) (net.next_exp (net.path ((codes "s")
              ∷ [])) net.no_exps)) ∷ []);
          close = close.EndSub;
        })) ∷
        (net.proc (record {
          head = (net.function net_visible.Public (codes "CurText") ((record {
            passing = net_passing.Value;
            name = (codes "d");
            ty = net_types.decimal;
          }) ∷ []) net_types.str);
          prologue = ([]);
          lines = (
              (net.assign (net.path ((codes "CurText") ∷ [])) (net.call_of (net.path ((codes "d") ∷ (codes "ToString") ∷ [])) (net.next_exp
              (net.lit (net.str (codes "0.####"))) (net.next_exp (net.path ((codes "System") ∷ (codes "Globalization") ∷ (codes "CultureInfo")
              ∷ (codes "InvariantCulture") ∷ [])) net.no_exps)))) ∷ []);
          close = close.EndFunction;
        })) ∷
        (net.proc (record {
          head = (net.function net_visible.Public (codes "PrintNum") ((record {
            passing = net_passing.Value;
            name = (codes "d");
            ty = net_types.decimal;
          }) ∷ []) net_types.str);
          prologue = ([]);
          lines = (
              (net.if_head (net.binary net_bin.Less (net.path ((codes "d") ∷ [])) (net.lit (net.decimal (pos 0))))) ∷
              (net.assign (net.path ((codes "PrintNum") ∷ [])) (net.binary net_bin.Concat (net.call_of (net.path ((codes "CurText")
              ∷ [])) (net.next_exp (net.path ((codes "d") ∷ [])) net.no_exps)) (net.lit (net.str (codes " "))))) ∷
              net.else_line ∷
              (net.assign (net.path ((codes "PrintNum") ∷ [])) (net.binary net_bin.Concat (net.binary net_bin.Concat (net.lit (net.str
              (codes " "))) (net.call_of (net.path ((codes "CurText") ∷ [])) (net.next_exp (net.path ((codes "d") ∷ [])) net.no_exps)))
              (net.lit (net.str (codes " "))))) ∷
              net.end_if ∷ []);
          close = close.EndFunction;
        })) ∷
        (net.proc (record {
          head = (net.function net_visible.Public (codes "Cur") ((record {
            passing = net_passing.Value;
            name
                = (codes "d");
            ty = net_types.decimal;
          }) ∷ []) net_types.decimal);
          prologue = ([]);
          lines = (
              (net.if_head (net.binary net_bin.Or (net.binary net_bin.Less (net.path ((codes "d") ∷ [])) (net.unary net_un.Neg (net.lit
              (net.decimal (pos 9223372036854775808))))) (net.binary net_bin.Greater (net.path ((codes "d") ∷ [])) (net.lit (net.decimal
              (pos 9223372036854775807)))))) ∷
              (net.call (net.path ((codes "Raise") ∷ [])) (net.next_exp (net.lit (net.integer (pos 6) false)) net.no_exps)) ∷
              net.end_if ∷
              (net.assign (net.path ((codes "Cur") ∷ [])) (net.path ((codes "d") ∷ []))) ∷ []);
          close = close.EndFunction;
        })) ∷
        (net.proc (record {
          head = (net.sub net_visible.Public (codes "Raise") ((record {
            passing = net_passing.Value;
            name =
                (codes "n");
            ty = net_types.integer;
          }) ∷ []));
          prologue = ([]);
          lines = (
              (net.call (net.dot (net.call_of (net.path ((codes "Microsoft") ∷ (codes "VisualBasic") ∷ (codes "Information") ∷ (codes
              "Err") ∷ [])) net.no_exps) (codes "Raise")) (net.next_exp (net.path ((codes "n") ∷ [])) net.no_exps)) ∷ []);
          close = close.EndSub;
        })) ∷ []);
  });
})

abbrev pub runnable : Runnable
runnable = runnable_of program quiet lows

said : ran runnable 0 2000 ≡ (
  line (codes " 5 -5  0  70000 -70000 ")
      ++ line (codes "TrueFalseab")
      ++ line ([])
      ++ line (codes "ab")
      ++ line (codes " 1234.5 -1234.5 "),
  ended,
)
unfolding digits
said = refl
