-- Names, cycles, limits and configurations break no rule of the code E17.
use Rattle.std.proofs.Common.{refl}
use Rattle.std.specs.Prelude.{ℕ, List, [], ◌∷◌, ◌++◌, map}
use Rattle.plc_text.specs.declared.code.Code.TheVariants.{E04, E05, E06, E13, E15, E16}
use Rattle.st_tree.specs.declared.configuration.Configuration.{Configuration}
use Rattle.st_tree.specs.declared.declaration.ClassDecl.{ClassDecl}
use Rattle.st_tree.specs.declared.declaration.InterfaceDecl.{InterfaceDecl}
use Rattle.st_tree.specs.declared.declaration.Section.{Section}
use Rattle.st_tree.specs.declared.name.Name.{Name}
use Rattle.st_tree.specs.declared.configuration.InstanceSpec.{InstanceSpec}
use Rattle.st_tree.specs.declared.configuration.Setting.{Setting}
use Rattle.st_tree.specs.declared.configuration.SettingValue.{SettingValue}
use Rattle.st_tree.specs.declared.configuration.SettingValue.TheVariants as value
use Rattle.st_tree.specs.declared.configuration.TaskSpec.{TaskSpec}
use Rattle.st_tree.specs.declared.type_spec.TypeSpec.{TypeSpec}
use Rattle.st_rules.specs.Classes.{methods_in, method_names}
use Rattle.st_unit_rules.specs.declared_names.Declarations.{configuration_globals, Declaration}
use Rattle.st_unit_rules.specs.declared_names.Variables.{Written}
use Rattle.st_unit_rules.specs.NameRules.{texts, declared_twice, space_faults, section_names, local_name_faults, member_names, own_variables, of_bases, variable_texts, member_name_faults, prototype_name_faults, configuration_name_faults}
use Rattle.st_unit_rules.specs.Cycles.{Named, alone, before_dot, before_hash, named_in_bounds, cycle_faults, inner_cycles, own_value, own_values}
use Rattle.st_unit_rules.specs.ConfigurationRules.{setting_past_its_limit, settings_faults, task_faults, instance_faults, tasks_and_instances}
use Rattle.st_unit_rules.proofs.refusal_codes.FaultWords.{Usual, none, ◌also◌, if_broken, of_each, of_numbered}
use Rattle.st_unit_rules.proofs.refusal_codes.PlaceCodes.{time_past_32_bits_usual}

-- ---- names

declared_twice_usual : (before : List (List ℕ)) (x : List Name) → Usual (declared_twice before x)
declared_twice_usual before [] = none
declared_twice_usual before (n ∷ ns) = if_broken _ E04 _ refl also declared_twice_usual (before ++ n.text ∷ []) ns

pub space_faults_usual : (ns : List Name) → Usual (space_faults ns)
unfolding space_faults
space_faults_usual ns = declared_twice_usual [] ns also of_each _ (λ x. if_broken _ E04 _ refl) ns

pub local_name_faults_usual : (routine : List ℕ) (ss : List (Section ℕ)) → Usual (local_name_faults routine ss)
unfolding local_name_faults
local_name_faults_usual routine ss = space_faults_usual (section_names ss) also of_each _ (λ x. if_broken _ E04 _ refl) (section_names ss)

pub member_name_faults_usual : (classes : List (ClassDecl ℕ)) (c : ℕ) (d : ClassDecl ℕ) → Usual (member_name_faults classes c d)
unfolding member_name_faults
member_name_faults_usual classes c d =
    let variables = of_bases classes variable_texts c in
    let methods = of_bases classes method_names c in
    space_faults_usual (member_names d.members)
    also of_each _ (λ x. if_broken _ E04 _ refl) (own_variables d.members)
    also of_each _ (λ x. if_broken _ E04 _ refl) (map (λ m. m.name) (methods_in d.members))

pub prototype_name_faults_usual : (i : InterfaceDecl ℕ) → Usual (prototype_name_faults i)
prototype_name_faults_usual i =
    space_faults_usual (map (λ m. m.name) i.methods)
    also of_each _ (λ m. local_name_faults_usual m.name.text m.sections) i.methods

pub configuration_name_faults_usual : (before : List (List ℕ)) (c : Configuration ℕ) → Usual (configuration_name_faults before c)
configuration_name_faults_usual before c =
    declared_twice_usual (before ++ c.name.text ∷ texts (section_names (configuration_globals c))) (map (λ x. x.name) c.instances)
    also of_each _ (λ x. if_broken _ E04 _ refl) (map (λ x. x.name) c.instances)
    also space_faults_usual (map (λ t. t.name) c.tasks)

-- ---- cycles

module _ (ds : List Declaration) where
  pub cycle_faults_usual : (line i : ℕ) → Usual (cycle_faults ds line i)
  unfolding cycle_faults
  cycle_faults_usual line i = if_broken _ E06 _ refl also if_broken _ E06 _ refl

module _ (ws : List Written) where
  pub inner_cycles_usual : Usual (inner_cycles ws)
  unfolding inner_cycles
  inner_cycles_usual = of_numbered _ (λ n x. if_broken _ E06 _ refl) 0 ws

own_value_usual : (name : List ℕ) (n : Named) → Usual (own_value name n)
own_value_usual name (alone t) = none
own_value_usual name (before_dot t) = none
own_value_usual name (before_hash l t) = if_broken _ E05 _ refl

pub own_values_usual : (name : List ℕ) (t : TypeSpec ℕ) → Usual (own_values name t)
unfolding own_values
own_values_usual name t = of_each _ (own_value_usual name) (named_in_bounds t)

-- ---- configurations

setting_past_its_limit_usual : (line : ℕ) (x : SettingValue) → Usual (setting_past_its_limit line x)
setting_past_its_limit_usual line (value.Int digits) = if_broken _ E13 _ refl
setting_past_its_limit_usual line (value.Time text) = time_past_32_bits_usual line text

settings_faults_usual : (before : List (List ℕ)) (x : List Setting) → Usual (settings_faults before x)
settings_faults_usual before [] = none
settings_faults_usual before (x ∷ xs) =
    if_broken _ E15 _ refl
    also setting_past_its_limit_usual x.line x.value
    also settings_faults_usual (before ++ x.name.text ∷ []) xs

task_faults_usual : (instances : List InstanceSpec) (before : ℕ) (t : TaskSpec) → Usual (task_faults instances before t)
task_faults_usual instances before t = settings_faults_usual [] t.settings also if_broken _ E15 _ refl also if_broken _ E16 _ refl

instance_faults_usual : (tasks programs : List (List ℕ)) (x : InstanceSpec) → Usual (instance_faults tasks programs x)
instance_faults_usual tasks programs x = if_broken _ E05 _ refl also if_broken _ E05 _ refl

pub tasks_and_instances_usual : (programs : List (List ℕ)) (c : Configuration ℕ) → Usual (tasks_and_instances programs c)
unfolding tasks_and_instances
tasks_and_instances_usual programs c =
    of_numbered _ (task_faults_usual c.instances) 0 c.tasks
    also of_each _ (instance_faults_usual (map (λ t. t.name.text) c.tasks) programs) c.instances
