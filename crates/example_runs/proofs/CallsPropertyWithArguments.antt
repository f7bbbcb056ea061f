-- The program calls-property-with-arguments, what it puts out and how it ends.
use Rattle.std.proofs.Common.{◌≡◌, refl, ◌++◌, List, ℤ, pos, Bool, true, false, [], ◌∷◌, codes, Some, None}
use Rattle.vb_tree.specs.declared.declared.VarId.{VarId}
use Rattle.bound_tree.specs.Tree as bound
use Rattle.net_tree.specs.Tree as net
use Rattle.net_tree.specs.Types as net_types
use Rattle.vb_tree.specs.BoundTree as types
use Rattle.vb_tree.specs.Tree as vb
use Rattle.vb_tree.specs.declared.expression.BinOp.TheVariants as bin
use Rattle.net_tree.specs.declared.expression.CastWord.TheVariants as cast
use Rattle.net_tree.specs.declared.declaration.NetClose.TheVariants as close
use Rattle.vb_tree.specs.declared.declared.ProcKind.TheVariants as kind
use Rattle.vb_tree.specs.declared.token.Literal6.TheVariants as literal
use Rattle.bound_tree.specs.declared.body.Mention.TheVariants as mention
use Rattle.bound_tree.specs.declared.declared.Named.TheVariants as named
use Rattle.net_tree.specs.declared.expression.NetBin.TheVariants as net_bin
use Rattle.net_tree.specs.declared.declaration.NetPassing.TheVariants as net_passing
use Rattle.net_tree.specs.declared.declaration.NetVisibility.TheVariants as net_visible
use Rattle.bound_tree.specs.declared.expression.Origin.TheVariants as origin
use Rattle.vb_tree.specs.declared.declared.Owner.TheVariants as owner
use Rattle.vb_tree.specs.declared.form_parts.Passing.TheVariants as passing
use Rattle.vb_tree.specs.declared.project.ProjectKind.TheVariants as project_kind
use Rattle.bound_tree.specs.declared.declared.Scope.TheVariants as scope
use Rattle.vb_tree.specs.declared.token.Suffix.TheVariants as suffix
use Rattle.vb_tree.specs.declared.value.Value6.TheVariants as value
use Rattle.vb_tree.specs.declared.form_parts.VarWord.TheVariants as var
use Rattle.vb_tree.specs.declared.form_parts.Visibility.TheVariants as visible
use Rattle.std.specs.Fmt.{digits}
use Rattle.example_runs.proofs.Said.{ended, line, ran, ran_written, runnable_of}
use Rattle.vb6_run.specs.Runnables.{Runnable}

abbrev pub project : vb.Project
project = (record {
  file = (record {
    kind = project_kind.Exe;
    startup = (Some (4, (codes "Sub Main")));
    entries = ((record
        { line = 2; class = false; name = (codes "Main1"); file = (codes "Main1.bas") }) ∷ (record {
          line = 3;
          class = false;
          name = (codes "Other");
          file = (codes "Other.bas");
        }) ∷ []);
    dropped = ([]);
  });
  modules = ((record {
    file = 1;
    name =
        (codes "Main1");
    class = false;
    members = (
        (vb.alone (record {
          place = (record { file = 1; line = 1 });
          text = (codes "Private t(5) As Long");
          form = (vb.variables
              var.Private ((record {
                name = (codes "t");
                suffix = suffix.Absent;
                bounds = (Some ((record {
                  lower = None;
                  upper = (vb.lit
                      (literal.Int (pos 5) false));
                }) ∷ []));
                auto = false;
                ty = (Some (vb.named (codes "Long")));
              }) ∷ []));
        })) ∷
        (vb.proc (record {
          place = (record { file = 1; line = 3 });
          text = (codes "Property Get P(ByVal i As Long) As Long");
          form = (vb.get_head (record {
            visibility = None;
            name = (codes "P");
            suffix = suffix.Absent;
            params = ((record {
              optional
                  = false;
              passing = passing.Value;
              param_array = false;
              name = (codes "i");
              suffix = suffix.Absent;
              array = false;
              ty =
                  (Some (vb.named (codes "Long")));
              preset = None;
            }) ∷ []);
          }) (Some (record {
            ty = (vb.named (codes "Long"));
            array = false;
          })));
        }) (vb.next_node
        (vb.line (record {
          place = (record { file = 1; line = 4 });
          text = (codes "P = t(i)");
          form = (vb.assign (vb.word (codes
              "P") suffix.Absent) (vb.index (vb.word (codes "t") suffix.Absent) (vb.next_arg None false (vb.given (vb.word (codes "i")
              suffix.Absent)) vb.no_args)));
        })) vb.no_nodes) (record {
          place = (record { file = 1; line = 5 });
          text = (codes "End Property");
          form = vb.end_property;
        })) ∷
        (vb.proc (record {
          place = (record { file = 1; line = 7 });
          text = (codes "Property Let P(ByVal i As Long, ByVal v As Long)");
          form = (vb.let_head (record {
            visibility = None;
            name = (codes "P");
            suffix = suffix.Absent;
            params = ((record {
              optional
                  = false;
              passing = passing.Value;
              param_array = false;
              name = (codes "i");
              suffix = suffix.Absent;
              array = false;
              ty =
                  (Some (vb.named (codes "Long")));
              preset = None;
            }) ∷ (record {
              optional = false;
              passing = passing.Value;
              param_array
                  = false;
              name = (codes "v");
              suffix = suffix.Absent;
              array = false;
              ty = (Some (vb.named (codes "Long")));
              preset = None;
            }) ∷ []);
          }));
        }) (vb.next_node
        (vb.line (record {
          place = (record { file = 1; line = 8 });
          text = (codes "t(i) = v");
          form = (vb.assign (vb.index (vb.word
              (codes "t") suffix.Absent) (vb.next_arg None false (vb.given (vb.word (codes "i") suffix.Absent)) vb.no_args)) (vb.word
              (codes "v") suffix.Absent));
        })) vb.no_nodes) (record {
          place = (record { file = 1; line = 9 });
          text = (codes "End Property");
          form = vb.end_property;
        })) ∷
        (vb.proc (record {
          place = (record { file = 1; line = 11 });
          text = (codes "Property Get Q() As Long");
          form = (vb.get_head
              (record { visibility = None; name = (codes "Q"); suffix = suffix.Absent; params = ([]) }) (Some (record {
                ty = (vb.named
                    (codes "Long"));
                array = false;
              })));
        }) (vb.next_node
        (vb.line (record {
          place = (record { file = 1; line = 12 });
          text = (codes "Q = 7");
          form = (vb.assign (vb.word (codes
              "Q") suffix.Absent) (vb.lit (literal.Int (pos 7) false)));
        })) vb.no_nodes) (record {
          place = (record {
            file = 1;
            line
                = 13;
          });
          text = (codes "End Property");
          form = vb.end_property;
        })) ∷
        (vb.proc (record {
          place = (record { file = 1; line = 15 });
          text = (codes "Sub Show(n As Long)");
          form = (vb.sub_head
              (record {
                visibility = None;
                name = (codes "Show");
                suffix = suffix.Absent;
                params = ((record {
                  optional = false;
                  passing
                      = passing.Unsaid;
                  param_array = false;
                  name = (codes "n");
                  suffix = suffix.Absent;
                  array = false;
                  ty = (Some (vb.named
                      (codes "Long")));
                  preset = None;
                }) ∷ []);
              }));
        }) (vb.next_node
        (vb.line (record {
          place = (record { file = 1; line = 16 });
          text = (codes "Debug.Print n");
          form = (vb.debug_print
              ((vb.word (codes "n") suffix.Absent) ∷ []) false);
        })) vb.no_nodes) (record {
          place = (record { file = 1; line = 17 });
          text = (codes "End Sub");
          form = vb.end_sub;
        })) ∷
        (vb.proc (record {
          place = (record { file = 1; line = 19 });
          text = (codes "Sub Main()");
          form = (vb.sub_head (record
              { visibility = None; name = (codes "Main"); suffix = suffix.Absent; params = ([]) }));
        }) (vb.next_node
        (vb.line (record {
          place = (record { file = 1; line = 20 });
          text = (codes "P(2) = 5");
          form = (vb.assign (vb.index
              (vb.word (codes "P") suffix.Absent) (vb.next_arg None false (vb.given (vb.lit (literal.Int (pos 2) false))) vb.no_args))
              (vb.lit (literal.Int (pos 5) false)));
        })) (vb.next_node
        (vb.line (record {
          place = (record { file = 1; line = 21 });
          text = (codes "Main1.P(3) = P(2) + 1");
          form = (vb.assign
              (vb.index (vb.member (vb.word (codes "Main1") suffix.Absent) (codes "P")) (vb.next_arg None false (vb.given (vb.lit (literal.Int
              (pos 3) false))) vb.no_args)) (vb.binary bin.Add (vb.index (vb.word (codes "P") suffix.Absent) (vb.next_arg None false
              (vb.given (vb.lit (literal.Int (pos 2) false))) vb.no_args)) (vb.lit (literal.Int (pos 1) false))));
        })) (vb.next_node
        (vb.line (record {
          place = (record { file = 1; line = 22 });
          text = (codes "Other.R(1) = 4");
          form = (vb.assign (vb.index
              (vb.member (vb.word (codes "Other") suffix.Absent) (codes "R")) (vb.next_arg None false (vb.given (vb.lit (literal.Int
              (pos 1) false))) vb.no_args)) (vb.lit (literal.Int (pos 4) false)));
        })) (vb.next_node
        (vb.line (record {
          place = (record { file = 1; line = 23 });
          text = (codes "R(2) = Other.R(1)");
          form = (vb.assign (vb.index
              (vb.word (codes "R") suffix.Absent) (vb.next_arg None false (vb.given (vb.lit (literal.Int (pos 2) false))) vb.no_args))
              (vb.index (vb.member (vb.word (codes "Other") suffix.Absent) (codes "R")) (vb.next_arg None false (vb.given (vb.lit (literal.Int
              (pos 1) false))) vb.no_args)));
        })) (vb.next_node
        (vb.line (record {
          place = (record { file = 1; line = 24 });
          text = (codes "Debug.Print P(2); Main1.P(3); R(2); Q; Main1.Q; Other.R(1)");
          form = (vb.debug_print ((vb.index (vb.word (codes "P") suffix.Absent) (vb.next_arg None false (vb.given (vb.lit (literal.Int
              (pos 2) false))) vb.no_args)) ∷ (vb.index (vb.member (vb.word (codes "Main1") suffix.Absent) (codes "P")) (vb.next_arg
              None false (vb.given (vb.lit (literal.Int (pos 3) false))) vb.no_args)) ∷ (vb.index (vb.word (codes "R") suffix.Absent)
              (vb.next_arg None false (vb.given (vb.lit (literal.Int (pos 2) false))) vb.no_args)) ∷ (vb.word (codes "Q") suffix.Absent)
              ∷ (vb.member (vb.word (codes "Main1") suffix.Absent) (codes "Q")) ∷ (vb.index (vb.member (vb.word (codes "Other") suffix.Absent)
              (codes "R")) (vb.next_arg None false (vb.given (vb.lit (literal.Int (pos 1) false))) vb.no_args)) ∷ []) false);
        })) (vb.next_node
        (vb.line (record {
          place = (record { file = 1; line = 25 });
          text = (codes "Show P(2)");
          form = (vb.invoke (vb.word
              (codes "Show") suffix.Absent) (vb.next_arg None false (vb.given (vb.index (vb.word (codes "P") suffix.Absent) (vb.next_arg
              None false (vb.given (vb.lit (literal.Int (pos 2) false))) vb.no_args))) vb.no_args));
        })) (vb.next_node
        (vb.line (record {
          place = (record { file = 1; line = 26 });
          text = (codes "Show Q");
          form = (vb.invoke (vb.word (codes
              "Show") suffix.Absent) (vb.next_arg None false (vb.given (vb.word (codes "Q") suffix.Absent)) vb.no_args));
        })) (vb.next_node
        (vb.line (record {
          place = (record { file = 1; line = 27 });
          text = (codes "Show (Main1.Q)");
          form = (vb.invoke (vb.word
              (codes "Show") suffix.Absent) (vb.next_arg None false (vb.given (vb.paren (vb.member (vb.word (codes "Main1") suffix.Absent)
              (codes "Q")))) vb.no_args));
        })) (vb.next_node
        (vb.line (record {
          place = (record { file = 1; line = 28 });
          text = (codes "Show Other.R(2)");
          form = (vb.invoke (vb.word
              (codes "Show") suffix.Absent) (vb.next_arg None false (vb.given (vb.index (vb.member (vb.word (codes "Other") suffix.Absent)
              (codes "R")) (vb.next_arg None false (vb.given (vb.lit (literal.Int (pos 2) false))) vb.no_args))) vb.no_args));
        })) vb.no_nodes)))))))))
        (record { place = (record { file = 1; line = 29 }); text = (codes "End Sub"); form = vb.end_sub })) ∷ []);
    comments =
        ([]);
  }) ∷ (record {
    file = 2;
    name = (codes "Other");
    class = false;
    members = (
        (vb.alone (record {
          place = (record { file = 2; line = 1 });
          text = (codes "Private u(5) As Long");
          form = (vb.variables
              var.Private ((record {
                name = (codes "u");
                suffix = suffix.Absent;
                bounds = (Some ((record {
                  lower = None;
                  upper = (vb.lit
                      (literal.Int (pos 5) false));
                }) ∷ []));
                auto = false;
                ty = (Some (vb.named (codes "Long")));
              }) ∷ []));
        })) ∷
        (vb.proc (record {
          place = (record { file = 2; line = 3 });
          text = (codes "Public Property Get R(ByVal i As Long) As Long");
          form = (vb.get_head (record {
            visibility = (Some visible.Public);
            name = (codes "R");
            suffix = suffix.Absent;
            params =
                ((record {
                  optional = false;
                  passing = passing.Value;
                  param_array = false;
                  name = (codes "i");
                  suffix = suffix.Absent;
                  array = false;
                  ty = (Some (vb.named (codes "Long")));
                  preset = None;
                }) ∷ []);
          }) (Some (record {
            ty = (vb.named (codes
                "Long"));
            array = false;
          })));
        }) (vb.next_node
        (vb.line (record {
          place = (record { file = 2; line = 4 });
          text = (codes "R = u(i)");
          form = (vb.assign (vb.word (codes
              "R") suffix.Absent) (vb.index (vb.word (codes "u") suffix.Absent) (vb.next_arg None false (vb.given (vb.word (codes "i")
              suffix.Absent)) vb.no_args)));
        })) vb.no_nodes) (record {
          place = (record { file = 2; line = 5 });
          text = (codes "End Property");
          form = vb.end_property;
        })) ∷
        (vb.proc (record {
          place = (record { file = 2; line = 7 });
          text = (codes "Public Property Let R(ByVal i As Long, ByVal v As Long)");
          form = (vb.let_head (record {
            visibility = (Some visible.Public);
            name = (codes "R");
            suffix = suffix.Absent;
            params =
                ((record {
                  optional = false;
                  passing = passing.Value;
                  param_array = false;
                  name = (codes "i");
                  suffix = suffix.Absent;
                  array = false;
                  ty = (Some (vb.named (codes "Long")));
                  preset = None;
                }) ∷ (record {
                  optional = false;
                  passing = passing.Value;
                  param_array = false;
                  name = (codes "v");
                  suffix = suffix.Absent;
                  array = false;
                  ty = (Some (vb.named (codes "Long")));
                  preset = None;
                }) ∷ []);
          }));
        }) (vb.next_node
        (vb.line (record {
          place = (record { file = 2; line = 8 });
          text = (codes "u(i) = v");
          form = (vb.assign (vb.index (vb.word
              (codes "u") suffix.Absent) (vb.next_arg None false (vb.given (vb.word (codes "i") suffix.Absent)) vb.no_args)) (vb.word
              (codes "v") suffix.Absent));
        })) vb.no_nodes) (record {
          place = (record { file = 2; line = 9 });
          text = (codes "End Property");
          form = vb.end_property;
        })) ∷ []);
    comments = ([]);
  }) ∷ []);
})

abbrev pub declarations : bound.Declarations
declarations = (record {
  project = project;
  names = (
      (record { name = (codes "t"); scope = (scope.Private 1); named = (named.Var (record { 0 = 0 })) }) ∷
      (record { name = (codes "P"); scope = (scope.Public 1); named = (named.Proc (record { 0 = 0 })) }) ∷
      (record { name = (codes "i"); scope = (scope.Local (record { 0 = 0 })); named = (named.Var (record { 0 = 1 })) }) ∷
      (record { name = (codes "P"); scope = (scope.Local (record { 0 = 0 })); named = (named.Var (record { 0 = 2 })) }) ∷
      (record { name = (codes "P"); scope = (scope.Public 1); named = (named.Proc (record { 0 = 1 })) }) ∷
      (record { name = (codes "i"); scope = (scope.Local (record { 0 = 1 })); named = (named.Var (record { 0 = 3 })) }) ∷
      (record { name = (codes "v"); scope = (scope.Local (record { 0 = 1 })); named = (named.Var (record { 0 = 4 })) }) ∷
      (record { name = (codes "Q"); scope = (scope.Public 1); named = (named.Proc (record { 0 = 2 })) }) ∷
      (record { name = (codes "Q"); scope = (scope.Local (record { 0 = 2 })); named = (named.Var (record { 0 = 5 })) }) ∷
      (record { name = (codes "Show"); scope = (scope.Public 1); named = (named.Proc (record { 0 = 3 })) }) ∷
      (record { name = (codes "n"); scope = (scope.Local (record { 0 = 3 })); named = (named.Var (record { 0 = 6 })) }) ∷
      (record { name = (codes "Main"); scope = (scope.Public 1); named = (named.Proc (record { 0 = 4 })) }) ∷
      (record { name = (codes "u"); scope = (scope.Private 2); named = (named.Var (record { 0 = 7 })) }) ∷
      (record { name = (codes "R"); scope = (scope.Public 2); named = (named.Proc (record { 0 = 5 })) }) ∷
      (record { name = (codes "i"); scope = (scope.Local (record { 0 = 5 })); named = (named.Var (record { 0 = 8 })) }) ∷
      (record { name = (codes "R"); scope = (scope.Local (record { 0 = 5 })); named = (named.Var (record { 0 = 9 })) }) ∷
      (record { name = (codes "R"); scope = (scope.Public 2); named = (named.Proc (record { 0 = 6 })) }) ∷
      (record { name = (codes "i"); scope = (scope.Local (record { 0 = 6 })); named = (named.Var (record { 0 = 10 })) }) ∷
      (record { name = (codes "v"); scope = (scope.Local (record { 0 = 6 })); named = (named.Var (record { 0 = 11 })) }) ∷ []);
  vars = (
      (record {
        name = (codes "t");
        place = (record { file = 1; line = 1 });
        statement = 0;
        owner = (owner.Module 1);
        ty = (types.array
            types.long 1);
        named = (types.array types.long 1);
        qualified = false;
        lettered = None;
        bounds = (((pos 0), (pos 5)) ∷
            []);
        auto = false;
        preset = None;
      }) ∷
      (record {
        name = (codes "i");
        place = (record { file = 1; line = 3 });
        statement = 1;
        owner = (owner.Value (record {
          0
              = 0;
        }));
        ty = types.long;
        named = types.long;
        qualified = false;
        lettered = None;
        bounds = ([]);
        auto = false;
        preset
            = None;
      }) ∷
      (record {
        name = (codes "P");
        place = (record { file = 1; line = 3 });
        statement = 1;
        owner = (owner.Answer (record {
          0 = 0;
        }));
        ty = types.long;
        named = types.long;
        qualified = false;
        lettered = None;
        bounds = ([]);
        auto = false;
        preset
            = None;
      }) ∷
      (record {
        name = (codes "i");
        place = (record { file = 1; line = 7 });
        statement = 4;
        owner = (owner.Value (record {
          0
              = 1;
        }));
        ty = types.long;
        named = types.long;
        qualified = false;
        lettered = None;
        bounds = ([]);
        auto = false;
        preset
            = None;
      }) ∷
      (record {
        name = (codes "v");
        place = (record { file = 1; line = 7 });
        statement = 4;
        owner = (owner.Value (record {
          0
              = 1;
        }));
        ty = types.long;
        named = types.long;
        qualified = false;
        lettered = None;
        bounds = ([]);
        auto = false;
        preset
            = None;
      }) ∷
      (record {
        name = (codes "Q");
        place = (record { file = 1; line = 11 });
        statement = 7;
        owner = (owner.Answer (record {
          0 = 2;
        }));
        ty = types.long;
        named = types.long;
        qualified = false;
        lettered = None;
        bounds = ([]);
        auto = false;
        preset
            = None;
      }) ∷
      (record {
        name = (codes "n");
        place = (record { file = 1; line = 15 });
        statement = 10;
        owner = (owner.Reference (record
            { 0 = 3 }));
        ty = types.long;
        named = types.long;
        qualified = false;
        lettered = None;
        bounds = ([]);
        auto = false;
        preset
            = None;
      }) ∷
      (record {
        name = (codes "u");
        place = (record { file = 2; line = 1 });
        statement = 0;
        owner = (owner.Module 2);
        ty = (types.array
            types.long 1);
        named = (types.array types.long 1);
        qualified = false;
        lettered = None;
        bounds = (((pos 0), (pos 5)) ∷
            []);
        auto = false;
        preset = None;
      }) ∷
      (record {
        name = (codes "i");
        place = (record { file = 2; line = 3 });
        statement = 1;
        owner = (owner.Value (record {
          0
              = 5;
        }));
        ty = types.long;
        named = types.long;
        qualified = false;
        lettered = None;
        bounds = ([]);
        auto = false;
        preset
            = None;
      }) ∷
      (record {
        name = (codes "R");
        place = (record { file = 2; line = 3 });
        statement = 1;
        owner = (owner.Answer (record {
          0 = 5;
        }));
        ty = types.long;
        named = types.long;
        qualified = false;
        lettered = None;
        bounds = ([]);
        auto = false;
        preset
            = None;
      }) ∷
      (record {
        name = (codes "i");
        place = (record { file = 2; line = 7 });
        statement = 4;
        owner = (owner.Value (record {
          0
              = 6;
        }));
        ty = types.long;
        named = types.long;
        qualified = false;
        lettered = None;
        bounds = ([]);
        auto = false;
        preset
            = None;
      }) ∷
      (record {
        name = (codes "v");
        place = (record { file = 2; line = 7 });
        statement = 4;
        owner = (owner.Value (record {
          0
              = 6;
        }));
        ty = types.long;
        named = types.long;
        qualified = false;
        lettered = None;
        bounds = ([]);
        auto = false;
        preset
            = None;
      }) ∷ []);
  consts = ([]);
  procs = (
      (record {
        name = (codes "P");
        place = (record { file = 1; line = 3 });
        module_number = 1;
        kind = kind.Get;
        visibility
            = visible.Public;
        params = ((record { 0 = 1 }) ∷ []);
        result = types.long;
        answer = (Some (record { 0 = 2 }));
        first =
            (record { 0 = 0 });
      }) ∷
      (record {
        name = (codes "P");
        place = (record { file = 1; line = 7 });
        module_number = 1;
        kind = kind.Let;
        visibility
            = visible.Public;
        params = ((record { 0 = 3 }) ∷ (record { 0 = 4 }) ∷ []);
        result = types.nothing;
        answer = None;
        first
            = (record { 0 = 0 });
      }) ∷
      (record {
        name = (codes "Q");
        place = (record { file = 1; line = 11 });
        module_number = 1;
        kind = kind.Get;
        visibility
            = visible.Public;
        params = ([]);
        result = types.long;
        answer = (Some (record { 0 = 5 }));
        first = (record { 0 = 2 });
      })
      ∷
      (record {
        name = (codes "Show");
        place = (record { file = 1; line = 15 });
        module_number = 1;
        kind = kind.Sub;
        visibility
            = visible.Public;
        params = ((record { 0 = 6 }) ∷ []);
        result = types.nothing;
        answer = None;
        first = (record { 0 = 3 });
      }) ∷
      (record {
        name = (codes "Main");
        place = (record { file = 1; line = 19 });
        module_number = 1;
        kind = kind.Sub;
        visibility
            = visible.Public;
        params = ([]);
        result = types.nothing;
        answer = None;
        first = (record { 0 = 4 });
      }) ∷
      (record {
        name = (codes "R");
        place = (record { file = 2; line = 3 });
        module_number = 2;
        kind = kind.Get;
        visibility
            = visible.Public;
        params = ((record { 0 = 8 }) ∷ []);
        result = types.long;
        answer = (Some (record { 0 = 9 }));
        first =
            (record { 0 = 5 });
      }) ∷
      (record {
        name = (codes "R");
        place = (record { file = 2; line = 7 });
        module_number = 2;
        kind = kind.Let;
        visibility
            = visible.Public;
        params = ((record { 0 = 10 }) ∷ (record { 0 = 11 }) ∷ []);
        result = types.nothing;
        answer = None;
        first
            = (record { 0 = 5 });
      }) ∷ []);
  types = ([]);
  enums = ([]);
  defaults = ([]);
})

abbrev pub body_0 : List bound.Line
body_0 = (
    (record {
      source = (record {
        place = (record { file = 1; line = 4 });
        text = (codes "P = t(i)");
        form = (vb.assign (vb.word
            (codes "P") suffix.Absent) (vb.index (vb.word (codes "t") suffix.Absent) (vb.next_arg None false (vb.given (vb.word (codes
            "i") suffix.Absent)) vb.no_args)));
      });
      bindings = (record {
        exprs = ((bound.typed types.long (bound.variable (record {
          0 = 2;
        }) false)) ∷ (bound.typed types.long (bound.element (bound.typed (types.array types.long 1) (bound.variable (record
            { 0 = 0 }) false)) (bound.next_expr (bound.typed types.long (bound.variable (record { 0 = 1 }) false)) bound.no_exprs)))
            ∷ []);
        rules = (record { bits = 0 });
        mentions = ((mention.Var (record { 0 = 2 })) ∷ (mention.Var (record { 0 = 0 }))
            ∷ (mention.Var (record { 0 = 1 })) ∷ []);
      });
    }) ∷ [])

abbrev pub body_1 : List bound.Line
body_1 = (
    (record {
      source = (record {
        place = (record { file = 1; line = 8 });
        text = (codes "t(i) = v");
        form = (vb.assign (vb.index
            (vb.word (codes "t") suffix.Absent) (vb.next_arg None false (vb.given (vb.word (codes "i") suffix.Absent)) vb.no_args))
            (vb.word (codes "v") suffix.Absent));
      });
      bindings = (record {
        exprs = ((bound.typed types.long (bound.element (bound.typed
            (types.array types.long 1) (bound.variable (record { 0 = 0 }) false)) (bound.next_expr (bound.typed types.long (bound.variable
            (record { 0 = 3 }) false)) bound.no_exprs))) ∷ (bound.typed types.long (bound.variable (record { 0 = 4 }) false)) ∷ []);
        rules = (record { bits = 0 });
        mentions = ((mention.Var (record { 0 = 0 })) ∷ (mention.Var (record { 0 = 3 })) ∷ (mention.Var
            (record { 0 = 4 })) ∷ []);
      });
    }) ∷ [])

abbrev pub body_2 : List bound.Line
body_2 = (
    (record {
      source = (record {
        place = (record { file = 1; line = 12 });
        text = (codes "Q = 7");
        form = (vb.assign (vb.word
            (codes "Q") suffix.Absent) (vb.lit (literal.Int (pos 7) false)));
      });
      bindings = (record {
        exprs = ((bound.typed types.long
            (bound.variable (record { 0 = 5 }) false)) ∷ (bound.typed types.long (bound.convert types.long (bound.typed types.integer
            (bound.constant (value.Int (pos 7)) origin.Literal)))) ∷ []);
        rules = (record { bits = 0 });
        mentions = ((mention.Var
            (record { 0 = 5 })) ∷ []);
      });
    }) ∷ [])

abbrev pub body_3 : List bound.Line
body_3 = (
    (record {
      source = (record {
        place = (record { file = 1; line = 16 });
        text = (codes "Debug.Print n");
        form = (vb.debug_print
            ((vb.word (codes "n") suffix.Absent) ∷ []) false);
      });
      bindings = (record {
        exprs = ((bound.typed types.long (bound.variable
            (record { 0 = 6 }) false)) ∷ []);
        rules = (record { bits = 0 });
        mentions = ((mention.Var (record { 0 = 6 })) ∷ []);
      });
    }) ∷ [])

abbrev pub body_4 : List bound.Line
body_4 = (
    (record {
      source = (record {
        place = (record { file = 1; line = 20 });
        text = (codes "P(2) = 5");
        form = (vb.assign (vb.index
            (vb.word (codes "P") suffix.Absent) (vb.next_arg None false (vb.given (vb.lit (literal.Int (pos 2) false))) vb.no_args))
            (vb.lit (literal.Int (pos 5) false)));
      });
      bindings = (record {
        exprs = ((bound.typed types.long (bound.call (record {
          0 = 1;
        }) false bound.no_object (bound.next_passed (bound.by_value (bound.typed types.long (bound.convert types.long (bound.typed
            types.integer (bound.constant (value.Int (pos 2)) origin.Literal))))) bound.no_passed))) ∷ (bound.typed types.long (bound.convert
            types.long (bound.typed types.integer (bound.constant (value.Int (pos 5)) origin.Literal)))) ∷ []);
        rules = (record {
          bits = 0;
        });
        mentions = ((mention.Proc (record { 0 = 1 })) ∷ []);
      });
    }) ∷
    (record {
      source = (record {
        place = (record { file = 1; line = 21 });
        text = (codes "Main1.P(3) = P(2) + 1");
        form =
            (vb.assign (vb.index (vb.member (vb.word (codes "Main1") suffix.Absent) (codes "P")) (vb.next_arg None false (vb.given
            (vb.lit (literal.Int (pos 3) false))) vb.no_args)) (vb.binary bin.Add (vb.index (vb.word (codes "P") suffix.Absent) (vb.next_arg
            None false (vb.given (vb.lit (literal.Int (pos 2) false))) vb.no_args)) (vb.lit (literal.Int (pos 1) false))));
      });
      bindings
          = (record {
            exprs = ((bound.typed types.long (bound.call (record { 0 = 1 }) true bound.no_object (bound.next_passed (bound.by_value
                (bound.typed types.long (bound.convert types.long (bound.typed types.integer (bound.constant (value.Int (pos 3)) origin.Literal)))))
                bound.no_passed))) ∷ (bound.typed types.long (bound.binary bin.Add (bound.typed types.long (bound.call (record {
                  0 = 0;
                }) false bound.no_object (bound.next_passed (bound.by_value (bound.typed types.long (bound.convert types.long (bound.typed
                types.integer (bound.constant (value.Int (pos 2)) origin.Literal))))) bound.no_passed))) (bound.typed types.long (bound.convert
                types.long (bound.typed types.integer (bound.constant (value.Int (pos 1)) origin.Literal)))))) ∷ []);
            rules = (record
                { bits = 0 });
            mentions = ((mention.Proc (record { 0 = 1 })) ∷ (mention.Proc (record { 0 = 0 })) ∷ []);
          });
    }) ∷
    (record {
      source = (record {
        place = (record { file = 1; line = 22 });
        text = (codes "Other.R(1) = 4");
        form = (vb.assign
            (vb.index (vb.member (vb.word (codes "Other") suffix.Absent) (codes "R")) (vb.next_arg None false (vb.given (vb.lit (literal.Int
            (pos 1) false))) vb.no_args)) (vb.lit (literal.Int (pos 4) false)));
      });
      bindings = (record {
        exprs = ((bound.typed types.long
            (bound.call (record { 0 = 6 }) true bound.no_object (bound.next_passed (bound.by_value (bound.typed types.long (bound.convert
            types.long (bound.typed types.integer (bound.constant (value.Int (pos 1)) origin.Literal))))) bound.no_passed))) ∷ (bound.typed
            types.long (bound.convert types.long (bound.typed types.integer (bound.constant (value.Int (pos 4)) origin.Literal))))
            ∷ []);
        rules = (record { bits = 0 });
        mentions = ((mention.Proc (record { 0 = 6 })) ∷ []);
      });
    }) ∷
    (record {
      source = (record {
        place = (record { file = 1; line = 23 });
        text = (codes "R(2) = Other.R(1)");
        form = (vb.assign
            (vb.index (vb.word (codes "R") suffix.Absent) (vb.next_arg None false (vb.given (vb.lit (literal.Int (pos 2) false)))
            vb.no_args)) (vb.index (vb.member (vb.word (codes "Other") suffix.Absent) (codes "R")) (vb.next_arg None false (vb.given
            (vb.lit (literal.Int (pos 1) false))) vb.no_args)));
      });
      bindings = (record {
        exprs = ((bound.typed types.long (bound.call
            (record { 0 = 6 }) false bound.no_object (bound.next_passed (bound.by_value (bound.typed types.long (bound.convert types.long
            (bound.typed types.integer (bound.constant (value.Int (pos 2)) origin.Literal))))) bound.no_passed))) ∷ (bound.typed types.long
            (bound.call (record { 0 = 5 }) true bound.no_object (bound.next_passed (bound.by_value (bound.typed types.long (bound.convert
            types.long (bound.typed types.integer (bound.constant (value.Int (pos 1)) origin.Literal))))) bound.no_passed))) ∷ []);
        rules = (record { bits = 0 });
        mentions = ((mention.Proc (record { 0 = 6 })) ∷ (mention.Proc (record { 0 = 5 })) ∷ []);
      });
    }) ∷
    (record {
      source = (record {
        place = (record { file = 1; line = 24 });
        text = (codes "Debug.Print P(2); Main1.P(3); R(2); Q; Main1.Q; Other.R(1)");
        form = (vb.debug_print ((vb.index (vb.word (codes "P") suffix.Absent) (vb.next_arg None false (vb.given (vb.lit (literal.Int
            (pos 2) false))) vb.no_args)) ∷ (vb.index (vb.member (vb.word (codes "Main1") suffix.Absent) (codes "P")) (vb.next_arg
            None false (vb.given (vb.lit (literal.Int (pos 3) false))) vb.no_args)) ∷ (vb.index (vb.word (codes "R") suffix.Absent)
            (vb.next_arg None false (vb.given (vb.lit (literal.Int (pos 2) false))) vb.no_args)) ∷ (vb.word (codes "Q") suffix.Absent)
            ∷ (vb.member (vb.word (codes "Main1") suffix.Absent) (codes "Q")) ∷ (vb.index (vb.member (vb.word (codes "Other") suffix.Absent)
            (codes "R")) (vb.next_arg None false (vb.given (vb.lit (literal.Int (pos 1) false))) vb.no_args)) ∷ []) false);
      });
      bindings
          = (record {
            exprs = ((bound.typed types.long (bound.call (record { 0 = 0 }) false bound.no_object (bound.next_passed (bound.by_value
                (bound.typed types.long (bound.convert types.long (bound.typed types.integer (bound.constant (value.Int (pos 2)) origin.Literal)))))
                bound.no_passed))) ∷ (bound.typed types.long (bound.call (record { 0 = 0 }) true bound.no_object (bound.next_passed (bound.by_value
                (bound.typed types.long (bound.convert types.long (bound.typed types.integer (bound.constant (value.Int (pos 3)) origin.Literal)))))
                bound.no_passed))) ∷ (bound.typed types.long (bound.call (record { 0 = 5 }) false bound.no_object (bound.next_passed (bound.by_value
                (bound.typed types.long (bound.convert types.long (bound.typed types.integer (bound.constant (value.Int (pos 2)) origin.Literal)))))
                bound.no_passed))) ∷ (bound.typed types.long (bound.call (record { 0 = 2 }) false bound.no_object bound.no_passed)) ∷
                (bound.typed types.long (bound.call (record { 0 = 2 }) true bound.no_object bound.no_passed)) ∷ (bound.typed types.long
                (bound.call (record { 0 = 5 }) true bound.no_object (bound.next_passed (bound.by_value (bound.typed types.long (bound.convert
                types.long (bound.typed types.integer (bound.constant (value.Int (pos 1)) origin.Literal))))) bound.no_passed))) ∷ []);
            rules = (record { bits = 0 });
            mentions = ((mention.Proc (record { 0 = 0 })) ∷ (mention.Proc (record { 0 = 0 })) ∷ (mention.Proc
                (record { 0 = 5 })) ∷ (mention.Proc (record { 0 = 2 })) ∷ (mention.Proc (record { 0 = 2 })) ∷ (mention.Proc (record {
                  0 = 5;
                })) ∷ []);
          });
    }) ∷
    (record {
      source = (record {
        place = (record { file = 1; line = 25 });
        text = (codes "Show P(2)");
        form = (vb.invoke (vb.word
            (codes "Show") suffix.Absent) (vb.next_arg None false (vb.given (vb.index (vb.word (codes "P") suffix.Absent) (vb.next_arg
            None false (vb.given (vb.lit (literal.Int (pos 2) false))) vb.no_args))) vb.no_args));
      });
      bindings = (record {
        exprs =
            ((bound.typed types.nothing (bound.call (record { 0 = 3 }) false bound.no_object (bound.next_passed (bound.by_value (bound.typed
            types.long (bound.call (record { 0 = 0 }) false bound.no_object (bound.next_passed (bound.by_value (bound.typed types.long
            (bound.convert types.long (bound.typed types.integer (bound.constant (value.Int (pos 2)) origin.Literal))))) bound.no_passed))))
            bound.no_passed))) ∷ []);
        rules = (record { bits = 0 });
        mentions = ((mention.Proc (record { 0 = 3 })) ∷ (mention.Proc
            (record { 0 = 0 })) ∷ []);
      });
    }) ∷
    (record {
      source = (record {
        place = (record { file = 1; line = 26 });
        text = (codes "Show Q");
        form = (vb.invoke (vb.word
            (codes "Show") suffix.Absent) (vb.next_arg None false (vb.given (vb.word (codes "Q") suffix.Absent)) vb.no_args));
      });
      bindings = (record {
        exprs = ((bound.typed types.nothing (bound.call (record { 0 = 3 }) false bound.no_object (bound.next_passed
            (bound.by_value (bound.typed types.long (bound.call (record { 0 = 2 }) false bound.no_object bound.no_passed))) bound.no_passed)))
            ∷ []);
        rules = (record { bits = 0 });
        mentions = ((mention.Proc (record { 0 = 3 })) ∷ (mention.Proc (record { 0 = 2 }))
            ∷ []);
      });
    }) ∷
    (record {
      source = (record {
        place = (record { file = 1; line = 27 });
        text = (codes "Show (Main1.Q)");
        form = (vb.invoke
            (vb.word (codes "Show") suffix.Absent) (vb.next_arg None false (vb.given (vb.paren (vb.member (vb.word (codes "Main1")
            suffix.Absent) (codes "Q")))) vb.no_args));
      });
      bindings = (record {
        exprs = ((bound.typed types.nothing (bound.call (record
            { 0 = 3 }) false bound.no_object (bound.next_passed (bound.by_value (bound.typed types.long (bound.call (record {
              0 =
                  2;
            }) true bound.no_object bound.no_passed))) bound.no_passed))) ∷ []);
        rules = (record { bits = 0 });
        mentions = ((mention.Proc
            (record { 0 = 3 })) ∷ (mention.Proc (record { 0 = 2 })) ∷ []);
      });
    }) ∷
    (record {
      source = (record {
        place = (record { file = 1; line = 28 });
        text = (codes "Show Other.R(2)");
        form = (vb.invoke
            (vb.word (codes "Show") suffix.Absent) (vb.next_arg None false (vb.given (vb.index (vb.member (vb.word (codes "Other")
            suffix.Absent) (codes "R")) (vb.next_arg None false (vb.given (vb.lit (literal.Int (pos 2) false))) vb.no_args))) vb.no_args));
      });
      bindings = (record {
        exprs = ((bound.typed types.nothing (bound.call (record { 0 = 3 }) false bound.no_object (bound.next_passed
            (bound.by_value (bound.typed types.long (bound.call (record { 0 = 5 }) true bound.no_object (bound.next_passed (bound.by_value
            (bound.typed types.long (bound.convert types.long (bound.typed types.integer (bound.constant (value.Int (pos 2)) origin.Literal)))))
            bound.no_passed)))) bound.no_passed))) ∷ []);
        rules = (record { bits = 0 });
        mentions = ((mention.Proc (record {
          0 = 3;
        })) ∷ (mention.Proc (record { 0 = 5 })) ∷ []);
      });
    }) ∷ [])

abbrev pub body_5 : List bound.Line
body_5 = (
    (record {
      source = (record {
        place = (record { file = 2; line = 4 });
        text = (codes "R = u(i)");
        form = (vb.assign (vb.word
            (codes "R") suffix.Absent) (vb.index (vb.word (codes "u") suffix.Absent) (vb.next_arg None false (vb.given (vb.word (codes
            "i") suffix.Absent)) vb.no_args)));
      });
      bindings = (record {
        exprs = ((bound.typed types.long (bound.variable (record {
          0 = 9;
        }) false)) ∷ (bound.typed types.long (bound.element (bound.typed (types.array types.long 1) (bound.variable (record
            { 0 = 7 }) false)) (bound.next_expr (bound.typed types.long (bound.variable (record { 0 = 8 }) false)) bound.no_exprs)))
            ∷ []);
        rules = (record { bits = 0 });
        mentions = ((mention.Var (record { 0 = 9 })) ∷ (mention.Var (record { 0 = 7 }))
            ∷ (mention.Var (record { 0 = 8 })) ∷ []);
      });
    }) ∷ [])

abbrev pub body_6 : List bound.Line
body_6 = (
    (record {
      source = (record {
        place = (record { file = 2; line = 8 });
        text = (codes "u(i) = v");
        form = (vb.assign (vb.index
            (vb.word (codes "u") suffix.Absent) (vb.next_arg None false (vb.given (vb.word (codes "i") suffix.Absent)) vb.no_args))
            (vb.word (codes "v") suffix.Absent));
      });
      bindings = (record {
        exprs = ((bound.typed types.long (bound.element (bound.typed
            (types.array types.long 1) (bound.variable (record { 0 = 7 }) false)) (bound.next_expr (bound.typed types.long (bound.variable
            (record { 0 = 10 }) false)) bound.no_exprs))) ∷ (bound.typed types.long (bound.variable (record { 0 = 11 }) false)) ∷
            []);
        rules = (record { bits = 0 });
        mentions = ((mention.Var (record { 0 = 7 })) ∷ (mention.Var (record { 0 = 10 })) ∷
            (mention.Var (record { 0 = 11 })) ∷ []);
      });
    }) ∷ [])

abbrev pub bodies : List (List bound.Line)
bodies = body_0 ∷ body_1 ∷ body_2 ∷ body_3 ∷ body_4 ∷ body_5 ∷ body_6 ∷ []

abbrev pub program : bound.Program
program = record { declarations = declarations; bodies = bodies }

abbrev pub quiet : List (List Bool)
quiet = ((false ∷ []) ∷ (false ∷ false ∷ []) ∷ ([]) ∷ (false ∷ []) ∷ ([]) ∷ (false ∷ []) ∷ (false ∷ false ∷ []) ∷ [])

abbrev pub lows : List (VarId × ℤ × ℤ)
lows = (((record { 0 = 0 }), (pos 0), (pos 0)) ∷ ((record { 0 = 7 }), (pos 0), (pos 0)) ∷ [])

abbrev pub clean : List Bool
clean = (true ∷ true ∷ true ∷ true ∷ true ∷ true ∷ true ∷ [])

abbrev pub written : net.Project
written = (record {
  library = false;
  main = (Some (codes "Main1"));
  note = None;
  modules = ((record {
    name = (codes "Main1");
    class = false;
    members = (
        (net.variable net_visible.Private (record {
          name = (codes "t");
          ty = (net_types.array_of net_types.integer 1);
          value =
              (Some (net.new_array net_types.integer (net.next_exp (net.lit (net.integer (pos 5) false)) net.no_exps)));
        })) ∷
        (net.property (record {
          visibility = net_visible.Public;
          name = (codes "P");
          params = ((record {
            passing = net_passing.Value;
            name = (codes "i");
            ty = net_types.integer;
          }) ∷ []);
          ty = net_types.integer;
          get_comments = ([]);
          get = (Some (record {
            head = net.get_part;
            prologue = ([]);
            lines = (
                (net.assign (net.path ((codes "P") ∷ [])) (net.call_of (net.path ((codes "t") ∷ [])) (net.next_exp (net.path ((codes "i")
                ∷ [])) net.no_exps))) ∷ []);
            close = close.EndGet;
          }));
          set_comments = ([]);
          set = (Some (record {
            head = (net.set_part
                (codes "v") net_types.integer);
            prologue = ([]);
            lines = (
                (net.assign (net.call_of (net.path ((codes "t") ∷ [])) (net.next_exp (net.path ((codes "i") ∷ [])) net.no_exps)) (net.path
                ((codes "v") ∷ []))) ∷ []);
            close = close.EndSet;
          }));
        })) ∷
        (net.property (record {
          visibility = net_visible.Public;
          name = (codes "Q");
          params = ([]);
          ty = net_types.integer;
          get_comments
              = ([]);
          get = (Some (record {
            head = net.get_part;
            prologue = ([]);
            lines = (
                (net.assign (net.path ((codes "Q") ∷ [])) (net.lit (net.integer (pos 7) false))) ∷ []);
            close = close.EndGet;
          }));
          set_comments
              = ([]);
          set = None;
        })) ∷
        (net.proc (record {
          head = (net.sub net_visible.Public (codes "Show") ((record {
            passing = net_passing.Reference;
            name
                = (codes "n");
            ty = net_types.integer;
          }) ∷ []));
          prologue = ([]);
          lines = (
              (net.call (net.path ((codes "UpgradeSupport") ∷ (codes "PrintLine") ∷ [])) (net.next_exp (net.call_of (net.path ((codes
              "UpgradeSupport") ∷ (codes "PrintNum") ∷ [])) (net.next_exp (net.cast cast.CDec (net.path ((codes "n") ∷ []))) net.no_exps))
              net.no_exps)) ∷ []);
          close = close.EndSub;
        })) ∷
        (net.proc (record {
          head = (net.sub net_visible.Public (codes "Main") ([]));
          prologue = ([]);
          lines = (
              (net.assign (net.call_of (net.path ((codes "P") ∷ [])) (net.next_exp (net.lit (net.integer (pos 2) false)) net.no_exps))
              (net.lit (net.integer (pos 5) false))) ∷
              (net.assign (net.call_of (net.path ((codes "Main1") ∷ (codes "P") ∷ [])) (net.next_exp (net.lit (net.integer (pos 3) false))
              net.no_exps)) (net.binary net_bin.Add (net.call_of (net.path ((codes "P") ∷ [])) (net.next_exp (net.lit (net.integer (pos
              2) false)) net.no_exps)) (net.lit (net.integer (pos 1) false)))) ∷
              (net.assign (net.call_of (net.path ((codes "Other") ∷ (codes "R") ∷ [])) (net.next_exp (net.lit (net.integer (pos 1) false))
              net.no_exps)) (net.lit (net.integer (pos 4) false))) ∷
              (net.assign (net.call_of (net.path ((codes "Other") ∷ (codes "R") ∷ [])) (net.next_exp (net.lit (net.integer (pos 2) false))
              net.no_exps)) (net.call_of (net.path ((codes "Other") ∷ (codes "R") ∷ [])) (net.next_exp (net.lit (net.integer (pos 1)
              false)) net.no_exps))) ∷
              (net.call (net.path ((codes "UpgradeSupport") ∷ (codes "PrintLine") ∷ [])) (net.next_exp (net.binary net_bin.Concat (net.binary
              net_bin.Concat (net.binary net_bin.Concat (net.binary net_bin.Concat (net.binary net_bin.Concat (net.call_of (net.path
              ((codes "UpgradeSupport") ∷ (codes "PrintNum") ∷ [])) (net.next_exp (net.cast cast.CDec (net.call_of (net.path ((codes
              "P") ∷ [])) (net.next_exp (net.lit (net.integer (pos 2) false)) net.no_exps))) net.no_exps)) (net.call_of (net.path ((codes
              "UpgradeSupport") ∷ (codes "PrintNum") ∷ [])) (net.next_exp (net.cast cast.CDec (net.call_of (net.path ((codes "Main1")
              ∷ (codes "P") ∷ [])) (net.next_exp (net.lit (net.integer (pos 3) false)) net.no_exps))) net.no_exps))) (net.call_of (net.path
              ((codes "UpgradeSupport") ∷ (codes "PrintNum") ∷ [])) (net.next_exp (net.cast cast.CDec (net.call_of (net.path ((codes
              "Other") ∷ (codes "R") ∷ [])) (net.next_exp (net.lit (net.integer (pos 2) false)) net.no_exps))) net.no_exps))) (net.call_of
              (net.path ((codes "UpgradeSupport") ∷ (codes "PrintNum") ∷ [])) (net.next_exp (net.cast cast.CDec (net.path ((codes "Q")
              ∷ []))) net.no_exps))) (net.call_of (net.path ((codes "UpgradeSupport") ∷ (codes "PrintNum") ∷ [])) (net.next_exp (net.cast
              cast.CDec (net.path ((codes "Main1") ∷ (codes "Q") ∷ []))) net.no_exps))) (net.call_of (net.path ((codes "UpgradeSupport")
              ∷ (codes "PrintNum") ∷ [])) (net.next_exp (net.cast cast.CDec (net.call_of (net.path ((codes "Other") ∷ (codes "R") ∷
              [])) (net.next_exp (net.lit (net.integer (pos 1) false)) net.no_exps))) net.no_exps))) net.no_exps)) ∷
              (net.call (net.path ((codes "Show") ∷ [])) (net.next_exp (net.paren (net.call_of (net.path ((codes "P") ∷ [])) (net.next_exp
              (net.lit (net.integer (pos 2) false)) net.no_exps))) net.no_exps)) ∷
              (net.call (net.path ((codes "Show") ∷ [])) (net.next_exp (net.paren (net.path ((codes "Q") ∷ []))) net.no_exps)) ∷
              (net.call (net.path ((codes "Show") ∷ [])) (net.next_exp (net.paren (net.path ((codes "Main1") ∷ (codes "Q") ∷ []))) net.no_exps))
              ∷
              (net.call (net.path ((codes "Show") ∷ [])) (net.next_exp (net.paren (net.call_of (net.path ((codes "Other") ∷ (codes "R")
              ∷ [])) (net.next_exp (net.lit (net.integer (pos 2) false)) net.no_exps))) net.no_exps)) ∷ []);
          close = close.EndSub;
        }))
        ∷ []);
  }) ∷ (record {
    name = (codes "Other");
    class = false;
    members = (
        (net.variable net_visible.Private (record {
          name = (codes "u");
          ty = (net_types.array_of net_types.integer 1);
          value =
              (Some (net.new_array net_types.integer (net.next_exp (net.lit (net.integer (pos 5) false)) net.no_exps)));
        })) ∷
        (net.property (record {
          visibility = net_visible.Public;
          name = (codes "R");
          params = ((record {
            passing = net_passing.Value;
            name = (codes "i");
            ty = net_types.integer;
          }) ∷ []);
          ty = net_types.integer;
          get_comments = ([]);
          get = (Some (record {
            head = net.get_part;
            prologue = ([]);
            lines = (
                (net.assign (net.path ((codes "R") ∷ [])) (net.call_of (net.path ((codes "u") ∷ [])) (net.next_exp (net.path ((codes "i")
                ∷ [])) net.no_exps))) ∷ []);
            close = close.EndGet;
          }));
          set_comments = ([]);
          set = (Some (record {
            head = (net.set_part
                (codes "v") net_types.integer);
            prologue = ([]);
            lines = (
                (net.assign (net.call_of (net.path ((codes "u") ∷ [])) (net.next_exp (net.path ((codes "i") ∷ [])) net.no_exps)) (net.path
                ((codes "v") ∷ []))) ∷ []);
            close = close.EndSet;
          }));
        })) ∷ []);
  }) ∷ []);
  support = (record {
    name = (codes "UpgradeSupport");
    class = false;
    members = (
        (net.proc (record {
          head = (net.sub net_visible.Public (codes "PrintLine") ((record {
            passing = net_passing.Value;
            name
                = (codes "s");
            ty = net_types.str;
          }) ∷ []));
          prologue = ([]);
          lines = (
              (net.call (net.path ((codes "System") ∷ (codes "Console") ∷ (codes "WriteLine") ∷ [])) (net.next_exp (net.path ((codes
              "s") ∷ [])) net.no_exps)) ∷ []);
          close = close.EndSub;
        })) ∷
        (net.proc (record {
          head = (net.function net_visible.Public (codes "CurText") ((record {
            passing = net_passing.Value;
            name = (codes "d");
            ty = net_types.decimal;
          }) ∷ []) net_types.str);
          prologue = ([]);
          lines = (
              (net.assign (net.path ((codes "CurText") ∷ [])) (net.call_of (net.path ((codes "d") ∷ (codes "ToString") ∷ [])) (net.next_exp
              (net.lit (net.str (codes "0.####"))) (net.next_exp (net.path ((codes "System") ∷ (codes "Globalization") ∷ (codes "CultureInfo")
              ∷ (codes "InvariantCulture") ∷ [])) net.no_exps)))) ∷ []);
          close = close.EndFunction;
        })) ∷
        (net.proc (record {
          head = (net.function net_visible.Public (codes "PrintNum") ((record {
            passing = net_passing.Value;
            name = (codes "d");
            ty = net_types.decimal;
          }) ∷ []) net_types.str);
          prologue = ([]);
          lines = (
              (net.if_head (net.binary net_bin.Less (net.path ((codes "d") ∷ [])) (net.lit (net.decimal (pos 0))))) ∷
              (net.assign (net.path ((codes "PrintNum") ∷ [])) (net.binary net_bin.Concat (net.call_of (net.path ((codes "CurText")
              ∷ [])) (net.next_exp (net.path ((codes "d") ∷ [])) net.no_exps)) (net.lit (net.str (codes " "))))) ∷
              net.else_line ∷
              (net.assign (net.path ((codes "PrintNum") ∷ [])) (net.binary net_bin.Concat (net.binary net_bin.Concat (net.lit (net.str
              (codes " "))) (net.call_of (net.path ((codes "CurText") ∷ [])) (net.next_exp (net.path ((codes "d") ∷ [])) net.no_exps)))
              (net.lit (net.str (codes " "))))) ∷
              net.end_if ∷ []);
          close = close.EndFunction;
        })) ∷ []);
  });
})

abbrev pub runnable : Runnable
runnable = runnable_of program quiet lows

said : ran runnable 4 2000 ≡ (
  line (codes " 5  6  4  7  7  4 ")
      ++ line (codes " 5 ")
      ++ line (codes " 7 ")
      ++ line (codes " 7 ")
      ++ line (codes " 4 "),
  ended,
)
unfolding digits
said = refl

said_written : ran_written written 4 2000 ≡ (
  line (codes " 5  6  4  7  7  4 ")
      ++ line (codes " 5 ")
      ++ line (codes " 7 ")
      ++ line (codes " 7 ")
      ++ line (codes " 4 "),
  ended,
)
unfolding digits
said_written = refl
