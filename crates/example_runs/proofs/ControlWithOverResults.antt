-- The program control-with-over-results, what it puts out and how it ends.
use Rattle.std.proofs.Common.{◌≡◌, refl, ◌++◌, List, ℤ, pos, Bool, true, false, [], ◌∷◌, codes, Some, None}
use Rattle.vb_tree.specs.declared.declared.VarId.{VarId}
use Rattle.bound_tree.specs.Tree as bound
use Rattle.net_tree.specs.Tree as net
use Rattle.net_tree.specs.Types as net_types
use Rattle.vb_tree.specs.BoundTree as types
use Rattle.vb_tree.specs.Tree as vb
use Rattle.net_tree.specs.declared.expression.CastWord.TheVariants as cast
use Rattle.net_tree.specs.declared.declaration.NetClose.TheVariants as close
use Rattle.vb_tree.specs.declared.declared.ProcKind.TheVariants as kind
use Rattle.vb_tree.specs.declared.token.Literal6.TheVariants as literal
use Rattle.bound_tree.specs.declared.body.Mention.TheVariants as mention
use Rattle.bound_tree.specs.declared.declared.Named.TheVariants as named
use Rattle.net_tree.specs.declared.expression.NetBin.TheVariants as net_bin
use Rattle.net_tree.specs.declared.declaration.NetPassing.TheVariants as net_passing
use Rattle.net_tree.specs.declared.declaration.NetVisibility.TheVariants as net_visible
use Rattle.bound_tree.specs.declared.expression.Origin.TheVariants as origin
use Rattle.vb_tree.specs.declared.declared.Owner.TheVariants as owner
use Rattle.vb_tree.specs.declared.project.ProjectKind.TheVariants as project_kind
use Rattle.bound_tree.specs.declared.expression.Root.TheVariants as root
use Rattle.bound_tree.specs.declared.declared.Scope.TheVariants as scope
use Rattle.vb_tree.specs.declared.token.Suffix.TheVariants as suffix
use Rattle.vb_tree.specs.declared.value.Value6.TheVariants as value
use Rattle.vb_tree.specs.declared.form_parts.VarWord.TheVariants as var
use Rattle.vb_tree.specs.declared.form_parts.Visibility.TheVariants as visible
use Rattle.std.specs.Fmt.{digits}
use Rattle.example_runs.proofs.Said.{ended, line, ran, runnable_of}
use Rattle.vb6_run.specs.Runnables.{Runnable}

abbrev pub project : vb.Project
project = (record {
  file = (record {
    kind = project_kind.Exe;
    startup = (Some (4, (codes "Sub Main")));
    entries = ((record
        { line = 2; class = false; name = (codes "Main1"); file = (codes "Main1.bas") }) ∷ (record {
          line = 3;
          class = true;
          name
              = (codes "Node");
          file = (codes "Node.cls");
        }) ∷ []);
    dropped = ([]);
  });
  modules = ((record {
    file = 1;
    name = (codes
        "Main1");
    class = false;
    members = (
        (vb.group (record {
          place = (record { file = 1; line = 1 });
          text = (codes "Private Type Point");
          form = (vb.type_head
              (Some visible.Private) (codes "Point") suffix.Absent);
        }) ((record {
          place = (record { file = 1; line = 2 });
          text = (codes
              "X As Long");
          form = (vb.field (codes "X") suffix.Absent None (vb.named (codes "Long")));
        }) ∷ (record {
          place = (record
              { file = 1; line = 3 });
          text = (codes "Y As Long");
          form = (vb.field (codes "Y") suffix.Absent None (vb.named (codes
              "Long")));
        }) ∷ []) (record { place = (record { file = 1; line = 4 }); text = (codes "End Type"); form = vb.end_type }))
        ∷
        (vb.proc (record {
          place = (record { file = 1; line = 6 });
          text = (codes "Private Function Make() As Point");
          form =
              (vb.function_head (record {
                visibility = (Some visible.Private);
                name = (codes "Make");
                suffix = suffix.Absent;
                params
                    = ([]);
              }) (Some (record { ty = (vb.named (codes "Point")); array = false })));
        }) (vb.next_node
        (vb.line (record {
          place = (record { file = 1; line = 7 });
          text = (codes "Make.X = 3");
          form = (vb.assign (vb.member
              (vb.word (codes "Make") suffix.Absent) (codes "X")) (vb.lit (literal.Int (pos 3) false)));
        })) (vb.next_node
        (vb.line (record {
          place = (record { file = 1; line = 8 });
          text = (68 ∷ 101 ∷ 98 ∷ 117 ∷ 103 ∷ 46 ∷ 80 ∷ 114 ∷ 105
              ∷ 110 ∷ 116 ∷ 32 ∷ 34 ∷ 109 ∷ 97 ∷ 100 ∷ 101 ∷ 34 ∷ []);
          form = (vb.debug_print ((vb.lit (literal.Str (codes "made")))
              ∷ []) false);
        })) vb.no_nodes)) (record {
          place = (record { file = 1; line = 9 });
          text = (codes "End Function");
          form
              = vb.end_function;
        })) ∷
        (vb.proc (record {
          place = (record { file = 1; line = 11 });
          text = (codes "Sub Main()");
          form = (vb.sub_head (record
              { visibility = None; name = (codes "Main"); suffix = suffix.Absent; params = ([]) }));
        }) (vb.next_node
        (vb.block (record {
          place = (record { file = 1; line = 12 });
          text = (codes "With Make()");
          form = (vb.with_head (vb.index
              (vb.word (codes "Make") suffix.Absent) vb.no_args));
        }) (vb.next_node
        (vb.line (record {
          place = (record { file = 1; line = 13 });
          text = (codes "Debug.Print .X; .Y");
          form = (vb.debug_print
              ((vb.with_member (codes "X")) ∷ (vb.with_member (codes "Y")) ∷ []) false);
        })) vb.no_nodes) vb.no_middles (record {
          place
              = (record { file = 1; line = 14 });
          text = (codes "End With");
          form = vb.end_with;
        })) (vb.next_node
        (vb.block (record {
          place = (record { file = 1; line = 15 });
          text = (codes "With New Node");
          form = (vb.with_head (vb.new_object
              (codes "Node")));
        }) (vb.next_node
        (vb.line (record {
          place = (record { file = 1; line = 16 });
          text = (codes ".k = 4");
          form = (vb.assign (vb.with_member
              (codes "k")) (vb.lit (literal.Int (pos 4) false)));
        })) (vb.next_node
        (vb.line (record {
          place = (record { file = 1; line = 17 });
          text = (codes "Debug.Print .k");
          form = (vb.debug_print
              ((vb.with_member (codes "k")) ∷ []) false);
        })) vb.no_nodes)) vb.no_middles (record {
          place = (record {
            file = 1;
            line
                = 18;
          });
          text = (codes "End With");
          form = vb.end_with;
        })) vb.no_nodes)) (record {
          place = (record {
            file = 1;
            line =
                19;
          });
          text = (codes "End Sub");
          form = vb.end_sub;
        })) ∷ []);
    comments = ([]);
  }) ∷ (record {
    file = 2;
    name = (codes "Node");
    class = true;
    members = (
        (vb.alone (record {
          place = (record { file = 2; line = 4 });
          text = (codes "Public k As Long");
          form = (vb.variables var.Public
              ((record {
                name = (codes "k");
                suffix = suffix.Absent;
                bounds = None;
                auto = false;
                ty = (Some (vb.named (codes "Long")));
              }) ∷ []));
        })) ∷ []);
    comments = ([]);
  }) ∷ []);
})

abbrev pub declarations : bound.Declarations
declarations = (record {
  project = project;
  names = (
      (record { name = (codes "Point"); scope = (scope.Private 1); named = (named.Type (record { 0 = 0 })) }) ∷
      (record { name = (codes "Make"); scope = (scope.Private 1); named = (named.Proc (record { 0 = 0 })) }) ∷
      (record { name = (codes "Make"); scope = (scope.Local (record { 0 = 0 })); named = (named.Var (record { 0 = 2 })) }) ∷
      (record { name = (codes "Main"); scope = (scope.Public 1); named = (named.Proc (record { 0 = 1 })) }) ∷
      (record { name = (codes "k"); scope = (scope.Public 2); named = (named.Var (record { 0 = 3 })) }) ∷ []);
  vars = (
      (record {
        name = (codes "X");
        place = (record { file = 1; line = 2 });
        statement = 1;
        owner = (owner.Field (record {
          0
              = 0;
        }));
        ty = types.long;
        named = types.long;
        qualified = false;
        lettered = None;
        bounds = ([]);
        auto = false;
        preset
            = None;
      }) ∷
      (record {
        name = (codes "Y");
        place = (record { file = 1; line = 3 });
        statement = 2;
        owner = (owner.Field (record {
          0
              = 0;
        }));
        ty = types.long;
        named = types.long;
        qualified = false;
        lettered = None;
        bounds = ([]);
        auto = false;
        preset
            = None;
      }) ∷
      (record {
        name = (codes "Make");
        place = (record { file = 1; line = 6 });
        statement = 4;
        owner = (owner.Answer (record
            { 0 = 0 }));
        ty = (types.user 0);
        named = (types.user 0);
        qualified = false;
        lettered = None;
        bounds = ([]);
        auto = false;
        preset = None;
      }) ∷
      (record {
        name = (codes "k");
        place = (record { file = 2; line = 4 });
        statement = 0;
        owner = (owner.Module 2);
        ty = types.long;
        named = types.long;
        qualified = false;
        lettered = None;
        bounds = ([]);
        auto = false;
        preset = None;
      }) ∷ []);
  consts =
      ([]);
  procs = (
      (record {
        name = (codes "Make");
        place = (record { file = 1; line = 6 });
        module_number = 1;
        kind = kind.Function;
        visibility
            = visible.Private;
        params = ([]);
        result = (types.user 0);
        answer = (Some (record { 0 = 2 }));
        first = (record {
          0 = 0;
        });
      }) ∷
      (record {
        name = (codes "Main");
        place = (record { file = 1; line = 11 });
        module_number = 1;
        kind = kind.Sub;
        visibility
            = visible.Public;
        params = ([]);
        result = types.nothing;
        answer = None;
        first = (record { 0 = 1 });
      }) ∷ []);
  types = (
      (record {
        name = (codes "Point");
        place = (record { file = 1; line = 1 });
        «module» = 1;
        fields = ((record { 0 = 0 })
            ∷ (record { 0 = 1 }) ∷ []);
      }) ∷ []);
  enums = ([]);
  defaults = (None ∷ []);
})

abbrev pub body_0 : List bound.Line
body_0 = (
    (record {
      source = (record {
        place = (record { file = 1; line = 7 });
        text = (codes "Make.X = 3");
        form = (vb.assign (vb.member
            (vb.word (codes "Make") suffix.Absent) (codes "X")) (vb.lit (literal.Int (pos 3) false)));
      });
      bindings = (record {
        exprs
            = ((bound.typed types.long (bound.field (bound.typed (types.user 0) (bound.variable (record { 0 = 2 }) false)) 0)) ∷ (bound.typed
            types.long (bound.convert types.long (bound.typed types.integer (bound.constant (value.Int (pos 3)) origin.Literal))))
            ∷ []);
        rules = (record { bits = 0 });
        mentions = ((mention.Var (record { 0 = 0 })) ∷ (mention.Var (record { 0 = 2 }))
            ∷ []);
      });
    }) ∷
    (record {
      source = (record {
        place = (record { file = 1; line = 8 });
        text = (68 ∷ 101 ∷ 98 ∷ 117 ∷ 103 ∷ 46 ∷ 80 ∷ 114
            ∷ 105 ∷ 110 ∷ 116 ∷ 32 ∷ 34 ∷ 109 ∷ 97 ∷ 100 ∷ 101 ∷ 34 ∷ []);
        form = (vb.debug_print ((vb.lit (literal.Str (codes "made")))
            ∷ []) false);
      });
      bindings = (record {
        exprs = ((bound.typed types.str (bound.constant (value.Str (codes "made")) origin.Literal))
            ∷ []);
        rules = (record { bits = 0 });
        mentions = ([]);
      });
    }) ∷ [])

abbrev pub body_1 : List bound.Line
body_1 = (
    (record {
      source = (record {
        place = (record { file = 1; line = 12 });
        text = (codes "With Make()");
        form = (vb.with_head
            (vb.index (vb.word (codes "Make") suffix.Absent) vb.no_args));
      });
      bindings = (record {
        exprs = ((bound.typed (types.user
            0) (bound.call (record { 0 = 0 }) false bound.no_object bound.no_passed)) ∷ []);
        rules = (record { bits = 0 });
        mentions
            = ((mention.Proc (record { 0 = 0 })) ∷ []);
      });
    }) ∷
    (record {
      source = (record {
        place = (record { file = 1; line = 13 });
        text = (codes "Debug.Print .X; .Y");
        form = (vb.debug_print
            ((vb.with_member (codes "X")) ∷ (vb.with_member (codes "Y")) ∷ []) false);
      });
      bindings = (record {
        exprs = ((bound.typed
            types.long (bound.field (bound.typed (types.user 0) (bound.with_object root.Temporary)) 0)) ∷ (bound.typed types.long
            (bound.field (bound.typed (types.user 0) (bound.with_object root.Temporary)) 1)) ∷ []);
        rules = (record { bits = 0 });
        mentions = ((mention.Var (record { 0 = 0 })) ∷ (mention.Var (record { 0 = 1 })) ∷ []);
      });
    }) ∷
    (record {
      source = (record { place = (record { file = 1; line = 14 }); text = (codes "End With"); form = vb.end_with });
      bindings = (record { exprs = ([]); rules = (record { bits = 0 }); mentions = ([]) });
    }) ∷
    (record {
      source = (record {
        place = (record { file = 1; line = 15 });
        text = (codes "With New Node");
        form = (vb.with_head
            (vb.new_object (codes "Node")));
      });
      bindings = (record {
        exprs = ((bound.typed (types.class 0) (bound.new_object (record
            { 0 = 0 }))) ∷ []);
        rules = (record { bits = 0 });
        mentions = ((mention.Class (record { 0 = 0 })) ∷ []);
      });
    }) ∷
    (record {
      source = (record {
        place = (record { file = 1; line = 16 });
        text = (codes ".k = 4");
        form = (vb.assign (vb.with_member
            (codes "k")) (vb.lit (literal.Int (pos 4) false)));
      });
      bindings = (record {
        exprs = ((bound.typed types.long (bound.field
            (bound.typed (types.class 0) (bound.with_object root.Temporary)) 0)) ∷ (bound.typed types.long (bound.convert types.long
            (bound.typed types.integer (bound.constant (value.Int (pos 4)) origin.Literal)))) ∷ []);
        rules = (record { bits = 0 });
        mentions = ((mention.Var (record { 0 = 3 })) ∷ []);
      });
    }) ∷
    (record {
      source = (record {
        place = (record { file = 1; line = 17 });
        text = (codes "Debug.Print .k");
        form = (vb.debug_print
            ((vb.with_member (codes "k")) ∷ []) false);
      });
      bindings = (record {
        exprs = ((bound.typed types.long (bound.field (bound.typed
            (types.class 0) (bound.with_object root.Temporary)) 0)) ∷ []);
        rules = (record { bits = 0 });
        mentions = ((mention.Var
            (record { 0 = 3 })) ∷ []);
      });
    }) ∷
    (record {
      source = (record { place = (record { file = 1; line = 18 }); text = (codes "End With"); form = vb.end_with });
      bindings = (record { exprs = ([]); rules = (record { bits = 0 }); mentions = ([]) });
    }) ∷ [])

abbrev pub bodies : List (List bound.Line)
bodies = body_0 ∷ body_1 ∷ []

abbrev pub program : bound.Program
program = record { declarations = declarations; bodies = bodies }

abbrev pub quiet : List (List Bool)
quiet = (([]) ∷ ([]) ∷ [])

abbrev pub lows : List (VarId × ℤ × ℤ)
lows = ([])

abbrev pub clean : List Bool
clean = (true ∷ true ∷ [])

abbrev pub written : net.Project
written = (record {
  library = false;
  main = (Some (codes "Main1"));
  note = None;
  modules = ((record {
    name = (codes "Main1");
    class = false;
    members = (
        (net.structure (record {
          name = (codes "Point");
          fields = ((net.field (codes "X") net_types.integer) ∷ (net.field (codes
              "Y") net_types.integer) ∷ []);
        })) ∷
        (net.proc (record {
          head = (net.function net_visible.Private (codes "Make") ([]) (net_types.named ((codes "Point") ∷ [])));
          prologue = ([]);
          lines = (
              (net.assign (net.path ((codes "Make") ∷ (codes "X") ∷ [])) (net.lit (net.integer (pos 3) false))) ∷
              (net.call (net.path ((codes "UpgradeSupport") ∷ (codes "PrintLine") ∷ [])) (net.next_exp (net.lit (net.str (codes "made")))
              net.no_exps)) ∷ []);
          close = close.EndFunction;
        })) ∷
        (net.proc (record {
          head = (net.sub net_visible.Public (codes "Main") ([]));
          prologue = ([]);
          lines = (
              (net.with_head (net.call_of (net.path ((codes "Make") ∷ [])) net.no_exps)) ∷
              (net.call (net.path ((codes "UpgradeSupport") ∷ (codes "PrintLine") ∷ [])) (net.next_exp (net.binary net_bin.Concat (net.call_of
              (net.path ((codes "UpgradeSupport") ∷ (codes "PrintNum") ∷ [])) (net.next_exp (net.cast cast.CDec (net.with_dot (codes
              "X"))) net.no_exps)) (net.call_of (net.path ((codes "UpgradeSupport") ∷ (codes "PrintNum") ∷ [])) (net.next_exp (net.cast
              cast.CDec (net.with_dot (codes "Y"))) net.no_exps))) net.no_exps)) ∷
              net.end_with ∷
              (net.with_head (net.new_object (net_types.named ((codes "Node") ∷ [])) net.no_exps)) ∷
              (net.assign (net.with_dot (codes "k")) (net.lit (net.integer (pos 4) false))) ∷
              (net.call (net.path ((codes "UpgradeSupport") ∷ (codes "PrintLine") ∷ [])) (net.next_exp (net.call_of (net.path ((codes
              "UpgradeSupport") ∷ (codes "PrintNum") ∷ [])) (net.next_exp (net.cast cast.CDec (net.with_dot (codes "k"))) net.no_exps))
              net.no_exps)) ∷
              net.end_with ∷ []);
          close = close.EndSub;
        })) ∷ []);
  }) ∷ (record {
    name = (codes "Node");
    class = true;
    members = (
        (net.variable net_visible.Public (record { name = (codes "k"); ty = net_types.integer; value = None })) ∷ []);
  }) ∷ []);
  support = (record {
    name = (codes "UpgradeSupport");
    class = false;
    members = (
        (net.proc (record {
          head = (net.sub net_visible.Public (codes "PrintLine") ((record {
            passing = net_passing.Value;
            name
                = (codes "s");
            ty = net_types.str;
          }) ∷ []));
          prologue = ([]);
          lines = (
              (net.call (net.path ((codes "System") ∷ (codes "Console") ∷ (codes "WriteLine") ∷ [])) (net.next_exp (net.path ((codes
              "s") ∷ [])) net.no_exps)) ∷ []);
          close = close.EndSub;
        })) ∷
        (net.proc (record {
          head = (net.function net_visible.Public (codes "CurText") ((record {
            passing = net_passing.Value;
            name = (codes "d");
            ty = net_types.decimal;
          }) ∷ []) net_types.str);
          prologue = ([]);
          lines = (
              (net.assign (net.path ((codes "CurText") ∷ [])) (net.call_of (net.path ((codes "d") ∷ (codes "ToString") ∷ [])) (net.next_exp
              (net.lit (net.str (codes "0.####"))) (net.next_exp (net.path ((codes "System") ∷ (codes "Globalization") ∷ (codes "CultureInfo")
              ∷ (codes "InvariantCulture") ∷ [])) net.no_exps)))) ∷ []);
          close = close.EndFunction;
        })) ∷
        (net.proc (record {
          head = (net.function net_visible.Public (codes "PrintNum") ((record {
            passing = net_passing.Value;
            name = (codes "d");
            ty = net_types.decimal;
          }) ∷ []) net_types.str);
          prologue = ([]);
          lines = (
              (net.if_head (net.binary net_bin.Less (net.path ((codes "d") ∷ [])) (net.lit (net.decimal (pos 0))))) ∷
              (net.assign (net.path ((codes "PrintNum") ∷ [])) (net.binary net_bin.Concat (net.call_of (net.path ((codes "CurText")
              ∷ [])) (net.next_exp (net.path ((codes "d") ∷ [])) net.no_exps)) (net.lit (net.str (codes " "))))) ∷
              net.else_line ∷
              (net.assign (net.path ((codes "PrintNum") ∷ [])) (net.binary net_bin.Concat (net.binary net_bin.Concat (net.lit (net.str
              (codes " "))) (net.call_of (net.path ((codes "CurText") ∷ [])) (net.next_exp (net.path ((codes "d") ∷ [])) net.no_exps)))
              (net.lit (net.str (codes " "))))) ∷
              net.end_if ∷ []);
          close = close.EndFunction;
        })) ∷ []);
  });
})

abbrev pub runnable : Runnable
runnable = runnable_of program quiet lows

said : ran runnable 1 2000 ≡ (
  line (codes "made")
      ++ line (codes " 3  0 ")
      ++ line (codes " 4 "),
  ended,
)
unfolding digits
said = refl
