-- The program arrays-put-order, what it puts out and how it ends.
use Rattle.std.proofs.Common.{◌≡◌, refl, ◌++◌, List, ℤ, pos, Bool, true, false, [], ◌∷◌, codes, Some, None}
use Rattle.vb_tree.specs.declared.declared.VarId.{VarId}
use Rattle.bound_tree.specs.Tree as bound
use Rattle.net_tree.specs.Tree as net
use Rattle.net_tree.specs.Types as net_types
use Rattle.vb_tree.specs.BoundTree as types
use Rattle.vb_tree.specs.Tree as vb
use Rattle.vb_tree.specs.declared.expression.BinOp.TheVariants as bin
use Rattle.net_tree.specs.declared.expression.CastWord.TheVariants as cast
use Rattle.net_tree.specs.declared.declaration.NetClose.TheVariants as close
use Rattle.vb_tree.specs.declared.declared.ProcKind.TheVariants as kind
use Rattle.vb_tree.specs.declared.token.Literal6.TheVariants as literal
use Rattle.bound_tree.specs.declared.body.Mention.TheVariants as mention
use Rattle.bound_tree.specs.declared.declared.Named.TheVariants as named
use Rattle.net_tree.specs.declared.expression.NetBin.TheVariants as net_bin
use Rattle.net_tree.specs.declared.declaration.NetPassing.TheVariants as net_passing
use Rattle.net_tree.specs.declared.declaration.NetVisibility.TheVariants as net_visible
use Rattle.bound_tree.specs.declared.expression.Origin.TheVariants as origin
use Rattle.vb_tree.specs.declared.declared.Owner.TheVariants as owner
use Rattle.vb_tree.specs.declared.project.ProjectKind.TheVariants as project_kind
use Rattle.bound_tree.specs.declared.declared.Scope.TheVariants as scope
use Rattle.vb_tree.specs.declared.token.Suffix.TheVariants as suffix
use Rattle.vb_tree.specs.declared.value.Value6.TheVariants as value
use Rattle.vb_tree.specs.declared.form_parts.VarWord.TheVariants as var
use Rattle.vb_tree.specs.declared.form_parts.Visibility.TheVariants as visible
use Rattle.std.specs.Fmt.{digits}
use Rattle.example_runs.proofs.Said.{ended, line, ran, ran_written, runnable_of}
use Rattle.vb6_run.specs.Runnables.{Runnable}

abbrev pub project : vb.Project
project = (record {
  file = (record {
    kind = project_kind.Exe;
    startup = (Some (3, (codes "Sub Main")));
    entries = ((record
        { line = 2; class = false; name = (codes "Main1"); file = (codes "Main1.bas") }) ∷ []);
    dropped = ([]);
  });
  modules = ((record {
    file = 1;
    name = (codes "Main1");
    class = false;
    members = (
        (vb.proc (record {
          place = (record { file = 1; line = 1 });
          text = (codes "Sub Main()");
          form = (vb.sub_head (record {
            visibility = None;
            name = (codes "Main");
            suffix = suffix.Absent;
            params = ([]);
          }));
        }) (vb.next_node
        (vb.line (record {
          place = (record { file = 1; line = 2 });
          text = (codes "Dim a(3) As Long, i As Long, z As Long");
          form = (vb.variables var.Dim ((record {
            name = (codes "a");
            suffix = suffix.Absent;
            bounds = (Some ((record {
              lower =
                  None;
              upper = (vb.lit (literal.Int (pos 3) false));
            }) ∷ []));
            auto = false;
            ty = (Some (vb.named (codes "Long")));
          }) ∷
              (record {
                name = (codes "i");
                suffix = suffix.Absent;
                bounds = None;
                auto = false;
                ty = (Some (vb.named (codes "Long")));
              }) ∷ (record {
                name = (codes "z");
                suffix = suffix.Absent;
                bounds = None;
                auto = false;
                ty = (Some (vb.named (codes "Long")));
              }) ∷ []));
        })) (vb.next_node
        (vb.line (record {
          place = (record { file = 1; line = 3 });
          text = (codes "On Error Resume Next");
          form = vb.on_error_resume_next;
        })) (vb.next_node
        (vb.line (record {
          place = (record { file = 1; line = 4 });
          text = (codes "i = 9");
          form = (vb.assign (vb.word (codes
              "i") suffix.Absent) (vb.lit (literal.Int (pos 9) false)));
        })) (vb.next_node
        (vb.line (record {
          place = (record { file = 1; line = 5 });
          text = (97 ∷ 40 ∷ 105 ∷ 41 ∷ 32 ∷ 61 ∷ 32 ∷ 49 ∷ 32 ∷ 92
              ∷ 32 ∷ 122 ∷ []);
          form = (vb.assign (vb.index (vb.word (codes "a") suffix.Absent) (vb.next_arg None false (vb.given (vb.word
              (codes "i") suffix.Absent)) vb.no_args)) (vb.binary bin.IntDiv (vb.lit (literal.Int (pos 1) false)) (vb.word (codes "z")
              suffix.Absent)));
        })) (vb.next_node
        (vb.line (record {
          place = (record { file = 1; line = 6 });
          text = (codes "Debug.Print Err.Number");
          form = (vb.debug_print
              ((vb.member (vb.word (codes "Err") suffix.Absent) (codes "Number")) ∷ []) false);
        })) (vb.next_node
        (vb.line (record {
          place = (record { file = 1; line = 7 });
          text = (codes "Err.Clear");
          form = (vb.invoke (vb.member
              (vb.word (codes "Err") suffix.Absent) (codes "Clear")) vb.no_args);
        })) (vb.next_node
        (vb.line (record {
          place = (record { file = 1; line = 8 });
          text = (codes "a(i) = i");
          form = (vb.assign (vb.index (vb.word
              (codes "a") suffix.Absent) (vb.next_arg None false (vb.given (vb.word (codes "i") suffix.Absent)) vb.no_args)) (vb.word
              (codes "i") suffix.Absent));
        })) (vb.next_node
        (vb.line (record {
          place = (record { file = 1; line = 9 });
          text = (codes "Debug.Print Err.Number");
          form = (vb.debug_print
              ((vb.member (vb.word (codes "Err") suffix.Absent) (codes "Number")) ∷ []) false);
        })) vb.no_nodes)))))))) (record {
          place
              = (record { file = 1; line = 10 });
          text = (codes "End Sub");
          form = vb.end_sub;
        })) ∷ []);
    comments = ([]);
  }) ∷ []);
})

abbrev pub declarations : bound.Declarations
declarations = (record {
  project = project;
  names = (
      (record { name = (codes "Main"); scope = (scope.Public 1); named = (named.Proc (record { 0 = 0 })) }) ∷
      (record { name = (codes "a"); scope = (scope.Local (record { 0 = 0 })); named = (named.Var (record { 0 = 0 })) }) ∷
      (record { name = (codes "i"); scope = (scope.Local (record { 0 = 0 })); named = (named.Var (record { 0 = 1 })) }) ∷
      (record { name = (codes "z"); scope = (scope.Local (record { 0 = 0 })); named = (named.Var (record { 0 = 2 })) }) ∷ []);
  vars = (
      (record {
        name = (codes "a");
        place = (record { file = 1; line = 2 });
        statement = 1;
        owner = (owner.Local (record {
          0
              = 0;
        }));
        ty = (types.array types.long 1);
        named = (types.array types.long 1);
        qualified = false;
        lettered = None;
        bounds
            = (((pos 0), (pos 3)) ∷ []);
        auto = false;
        preset = None;
      }) ∷
      (record {
        name = (codes "i");
        place = (record { file = 1; line = 2 });
        statement = 1;
        owner = (owner.Local (record {
          0
              = 0;
        }));
        ty = types.long;
        named = types.long;
        qualified = false;
        lettered = None;
        bounds = ([]);
        auto = false;
        preset
            = None;
      }) ∷
      (record {
        name = (codes "z");
        place = (record { file = 1; line = 2 });
        statement = 1;
        owner = (owner.Local (record {
          0
              = 0;
        }));
        ty = types.long;
        named = types.long;
        qualified = false;
        lettered = None;
        bounds = ([]);
        auto = false;
        preset
            = None;
      }) ∷ []);
  consts = ([]);
  procs = (
      (record {
        name = (codes "Main");
        place = (record { file = 1; line = 1 });
        module_number = 1;
        kind = kind.Sub;
        visibility
            = visible.Public;
        params = ([]);
        result = types.nothing;
        answer = None;
        first = (record { 0 = 0 });
      }) ∷ []);
  types = ([]);
  enums = ([]);
  defaults = ([]);
})

abbrev pub body_0 : List bound.Line
body_0 = (
    (record {
      source = (record {
        place = (record { file = 1; line = 3 });
        text = (codes "On Error Resume Next");
        form = vb.on_error_resume_next;
      });
      bindings = (record { exprs = ([]); rules = (record { bits = 0 }); mentions = ([]) });
    }) ∷
    (record {
      source = (record {
        place = (record { file = 1; line = 4 });
        text = (codes "i = 9");
        form = (vb.assign (vb.word
            (codes "i") suffix.Absent) (vb.lit (literal.Int (pos 9) false)));
      });
      bindings = (record {
        exprs = ((bound.typed types.long
            (bound.variable (record { 0 = 1 }) false)) ∷ (bound.typed types.long (bound.convert types.long (bound.typed types.integer
            (bound.constant (value.Int (pos 9)) origin.Literal)))) ∷ []);
        rules = (record { bits = 0 });
        mentions = ((mention.Var
            (record { 0 = 1 })) ∷ []);
      });
    }) ∷
    (record {
      source = (record {
        place = (record { file = 1; line = 5 });
        text = (97 ∷ 40 ∷ 105 ∷ 41 ∷ 32 ∷ 61 ∷ 32 ∷ 49 ∷
            32 ∷ 92 ∷ 32 ∷ 122 ∷ []);
        form = (vb.assign (vb.index (vb.word (codes "a") suffix.Absent) (vb.next_arg None false (vb.given
            (vb.word (codes "i") suffix.Absent)) vb.no_args)) (vb.binary bin.IntDiv (vb.lit (literal.Int (pos 1) false)) (vb.word
            (codes "z") suffix.Absent)));
      });
      bindings = (record {
        exprs = ((bound.typed types.long (bound.element (bound.typed (types.array
            types.long 1) (bound.variable (record { 0 = 0 }) false)) (bound.next_expr (bound.typed types.long (bound.variable (record
            { 0 = 1 }) false)) bound.no_exprs))) ∷ (bound.typed types.long (bound.binary bin.IntDiv (bound.typed types.long (bound.convert
            types.long (bound.typed types.integer (bound.constant (value.Int (pos 1)) origin.Literal)))) (bound.typed types.long (bound.variable
            (record { 0 = 2 }) false)))) ∷ []);
        rules = (record { bits = 0 });
        mentions = ((mention.Var (record { 0 = 0 })) ∷ (mention.Var
            (record { 0 = 1 })) ∷ (mention.Var (record { 0 = 2 })) ∷ []);
      });
    }) ∷
    (record {
      source = (record {
        place = (record { file = 1; line = 6 });
        text = (codes "Debug.Print Err.Number");
        form =
            (vb.debug_print ((vb.member (vb.word (codes "Err") suffix.Absent) (codes "Number")) ∷ []) false);
      });
      bindings = (record
          { exprs = ((bound.typed types.long bound.err_number) ∷ []); rules = (record { bits = 0 }); mentions = ([]) });
    }) ∷
    (record {
      source = (record {
        place = (record { file = 1; line = 7 });
        text = (codes "Err.Clear");
        form = (vb.invoke (vb.member
            (vb.word (codes "Err") suffix.Absent) (codes "Clear")) vb.no_args);
      });
      bindings = (record {
        exprs = ((bound.typed types.nothing
            bound.err_clear) ∷ []);
        rules = (record { bits = 0 });
        mentions = ([]);
      });
    }) ∷
    (record {
      source = (record {
        place = (record { file = 1; line = 8 });
        text = (codes "a(i) = i");
        form = (vb.assign (vb.index
            (vb.word (codes "a") suffix.Absent) (vb.next_arg None false (vb.given (vb.word (codes "i") suffix.Absent)) vb.no_args))
            (vb.word (codes "i") suffix.Absent));
      });
      bindings = (record {
        exprs = ((bound.typed types.long (bound.element (bound.typed
            (types.array types.long 1) (bound.variable (record { 0 = 0 }) false)) (bound.next_expr (bound.typed types.long (bound.variable
            (record { 0 = 1 }) false)) bound.no_exprs))) ∷ (bound.typed types.long (bound.variable (record { 0 = 1 }) false)) ∷ []);
        rules = (record { bits = 0 });
        mentions = ((mention.Var (record { 0 = 0 })) ∷ (mention.Var (record { 0 = 1 })) ∷ (mention.Var
            (record { 0 = 1 })) ∷ []);
      });
    }) ∷
    (record {
      source = (record {
        place = (record { file = 1; line = 9 });
        text = (codes "Debug.Print Err.Number");
        form =
            (vb.debug_print ((vb.member (vb.word (codes "Err") suffix.Absent) (codes "Number")) ∷ []) false);
      });
      bindings = (record
          { exprs = ((bound.typed types.long bound.err_number) ∷ []); rules = (record { bits = 0 }); mentions = ([]) });
    }) ∷ [])

abbrev pub bodies : List (List bound.Line)
bodies = body_0 ∷ []

abbrev pub program : bound.Program
program = record { declarations = declarations; bodies = bodies }

abbrev pub quiet : List (List Bool)
quiet = (([]) ∷ [])

abbrev pub lows : List (VarId × ℤ × ℤ)
lows = (((record { 0 = 0 }), (pos 0), (pos 0)) ∷ [])

abbrev pub clean : List Bool
clean = (true ∷ [])

abbrev pub written : net.Project
written = (record {
  library = false;
  main = (Some (codes "Main1"));
  note = None;
  modules = ((record {
    name = (codes "Main1");
    class = false;
    members = (
        (net.proc (record {
          head = (net.sub net_visible.Public (codes "Main") ([]));
          prologue = (
              (net.local (record {
                name = (codes "a");
                ty = (net_types.array_of net_types.integer 1);
                value = (Some (net.new_array net_types.integer
                    (net.next_exp (net.lit (net.integer (pos 3) false)) net.no_exps)));
              })) ∷
              (net.local (record { name = (codes "i"); ty = net_types.integer; value = None })) ∷
              (net.local (record { name = (codes "z"); ty = net_types.integer; value = None })) ∷ []);
          lines = (
              net.on_error_resume_next ∷
              (net.assign (net.path ((codes "i") ∷ [])) (net.lit (net.integer (pos 9) false))) ∷
              (net.assign (net.call_of (net.path ((codes "a") ∷ [])) (net.next_exp (net.path ((codes "i") ∷ [])) net.no_exps)) (net.binary
              net_bin.IntDiv (net.lit (net.integer (pos 1) false)) (net.path ((codes "z") ∷ [])))) ∷
              (net.call (net.path ((codes "UpgradeSupport") ∷ (codes "PrintLine") ∷ [])) (net.next_exp (net.call_of (net.path ((codes
              "UpgradeSupport") ∷ (codes "PrintNum") ∷ [])) (net.next_exp (net.cast cast.CDec (net.call_of (net.path ((codes "UpgradeSupport")
              ∷ (codes "ErrNumber") ∷ [])) net.no_exps)) net.no_exps)) net.no_exps)) ∷
              (net.call (net.path ((codes "UpgradeSupport") ∷ (codes "ErrClear") ∷ [])) net.no_exps) ∷
              (net.assign (net.call_of (net.path ((codes "a") ∷ [])) (net.next_exp (net.path ((codes "i") ∷ [])) net.no_exps)) (net.path
              ((codes "i") ∷ []))) ∷
              (net.call (net.path ((codes "UpgradeSupport") ∷ (codes "PrintLine") ∷ [])) (net.next_exp (net.call_of (net.path ((codes
              "UpgradeSupport") ∷ (codes "PrintNum") ∷ [])) (net.next_exp (net.cast cast.CDec (net.call_of (net.path ((codes "UpgradeSupport")
              ∷ (codes "ErrNumber") ∷ [])) net.no_exps)) net.no_exps)) net.no_exps)) ∷ []);
          close = close.EndSub;
        })) ∷ []);
  }) ∷ []);
  support = (record {
    name = (codes "UpgradeSupport");
    class = false;
    members = (
        (net.proc (record {
          head = (net.sub net_visible.Public (codes "PrintLine") ((record {
            passing = net_passing.Value;
            name
                = (codes "s");
            ty = net_types.str;
          }) ∷ []));
          prologue = ([]);
          lines = (
              (net.call (net.path ((codes "System") ∷ (codes "Console") ∷ (codes "WriteLine") ∷ [])) (net.next_exp (net.path ((codes
              "s") ∷ [])) net.no_exps)) ∷ []);
          close = close.EndSub;
        })) ∷
        (net.proc (record {
          head = (net.function net_visible.Public (codes "CurText") ((record {
            passing = net_passing.Value;
            name = (codes "d");
            ty = net_types.decimal;
          }) ∷ []) net_types.str);
          prologue = ([]);
          lines = (
              (net.assign (net.path ((codes "CurText") ∷ [])) (net.call_of (net.path ((codes "d") ∷ (codes "ToString") ∷ [])) (net.next_exp
              (net.lit (net.str (codes "0.####"))) (net.next_exp (net.path ((codes "System") ∷ (codes "Globalization") ∷ (codes "CultureInfo")
              ∷ (codes "InvariantCulture") ∷ [])) net.no_exps)))) ∷ []);
          close = close.EndFunction;
        })) ∷
        (net.proc (record {
          head = (net.function net_visible.Public (codes "PrintNum") ((record {
            passing = net_passing.Value;
            name = (codes "d");
            ty = net_types.decimal;
          }) ∷ []) net_types.str);
          prologue = ([]);
          lines = (
              (net.if_head (net.binary net_bin.Less (net.path ((codes "d") ∷ [])) (net.lit (net.decimal (pos 0))))) ∷
              (net.assign (net.path ((codes "PrintNum") ∷ [])) (net.binary net_bin.Concat (net.call_of (net.path ((codes "CurText")
              ∷ [])) (net.next_exp (net.path ((codes "d") ∷ [])) net.no_exps)) (net.lit (net.str (codes " "))))) ∷
              net.else_line ∷
              (net.assign (net.path ((codes "PrintNum") ∷ [])) (net.binary net_bin.Concat (net.binary net_bin.Concat (net.lit (net.str
              (codes " "))) (net.call_of (net.path ((codes "CurText") ∷ [])) (net.next_exp (net.path ((codes "d") ∷ [])) net.no_exps)))
              (net.lit (net.str (codes " "))))) ∷
              net.end_if ∷ []);
          close = close.EndFunction;
        })) ∷
        (net.proc (record {
          head = (net.function net_visible.Public (codes "ErrNumber") ([]) net_types.integer);
          prologue = ([]);
          lines = (
              (net.assign (net.path ((codes "ErrNumber") ∷ [])) (net.dot (net.call_of (net.path ((codes "Microsoft") ∷ (codes "VisualBasic")
              ∷ (codes "Information") ∷ (codes "Err") ∷ [])) net.no_exps) (codes "Number"))) ∷ []);
          close = close.EndFunction;
        })) ∷
        (net.proc (record {
          head = (net.sub net_visible.Public (codes "ErrClear") ([]));
          prologue = ([]);
          lines = (
              (net.call (net.dot (net.call_of (net.path ((codes "Microsoft") ∷ (codes "VisualBasic") ∷ (codes "Information") ∷ (codes
              "Err") ∷ [])) net.no_exps) (codes "Clear")) net.no_exps) ∷ []);
          close = close.EndSub;
        })) ∷ []);
  });
})

abbrev pub runnable : Runnable
runnable = runnable_of program quiet lows

said : ran runnable 0 2000 ≡ (
  line (codes " 11 ")
      ++ line (codes " 9 "),
  ended,
)
unfolding digits
said = refl

said_written : ran_written written 0 2000 ≡ (
  line (codes " 11 ")
      ++ line (codes " 9 "),
  ended,
)
unfolding digits
said_written = refl
