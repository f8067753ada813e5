-- The form of each rule of the grammar of declarations.
use Rattle.std.specs.Prelude.{Bool, true, false, ◌||◌, [], ◌∷◌, refl}
use Rattle.st_types.specs.declared.elem.Elem.TheVariants as kind
use Rattle.st_tree.specs.declared.terminal.Terminal.{Terminal}
use Rattle.st_tree.specs.declared.terminal.Terminal.TheVariants as x
use Rattle.st_parser_expr.specs.Private.Machine as e
use Rattle.st_parser_stmt.specs.Private.Machine as s
use Rattle.st_parser_decl.specs.Private.Form.{Form, one, one_of, both, may, option, several, either, inside}

-- ---- sets of terminals

-- the name of an elementary kind
abbrev pub is_kind : Terminal → Bool
is_kind (x.Kind k) = true
is_kind _ = false

abbrev pub is_keep : Terminal → Bool
is_keep x.Constant = true
is_keep x.Retain = true
is_keep x.NonRetain = true
is_keep x.Persistent = true
is_keep _ = false

abbrev pub is_access : Terminal → Bool
is_access x.Public = true
is_access x.Protected = true
is_access x.Private = true
is_access x.Internal = true
is_access _ = false

-- behind the word of a section
abbrev pub is_section_word : Terminal → Bool
is_section_word t = is_keep t || is_access t

abbrev pub is_class_word : Terminal → Bool
is_class_word x.Abstract = true
is_class_word x.Final = true
is_class_word _ = false

abbrev pub is_method_word : Terminal → Bool
is_method_word x.Abstract = true
is_method_word x.Final = true
is_method_word x.Override = true
is_method_word t = is_access t

-- the word of a section that is not of globals
abbrev pub is_section : Terminal → Bool
is_section x.Var = true
is_section x.VarInput = true
is_section x.VarOutput = true
is_section x.VarInOut = true
is_section x.VarTemp = true
is_section x.VarExternal = true
is_section _ = false

-- ---- names, types and values

unfoldable pub word : Form
word = one x.Word

-- more of them, with commas before each
abbrev pub more_of : Form → Form
more_of a = several (both (one x.Comma) a)

-- one or more, with commas between them
abbrev pub list_of : Form → Form
list_of a = both a (more_of a)

unfoldable pub names : Form
names = list_of word

unfoldable pub expression : Form
expression = inside (s.inside e.start ∷ [])

unfoldable pub value : Form
value = inside (s.init_next ∷ [])

-- statements up to this terminal
unfoldable pub body : (t : Terminal) → s.IsNoStatement t → s.Quiet t → Form
body t free q = inside (s.body (s.until t free q) ∷ [])

unfoldable pub range : Form
range = both expression (both (one x.Range) expression)

unfoldable pub ranges : Form
ranges = list_of range

unfoldable pub array_spec : Form
array_spec = both (one x.Array) (both (one x.OpenBracket) (both ranges (both (one x.CloseBracket) (one x.Of))))

unfoldable pub reference : Form
reference = both (one x.RefTo) word

unfoldable pub simple_spec : Form
simple_spec = either (one_of is_kind (x.Kind kind.Bool) refl) (either word reference)

unfoldable pub type_spec : Form
type_spec = both (several array_spec) simple_spec

unfoldable pub result : Form
result = option (both (one x.Colon) type_spec)

unfoldable pub start_value : Form
start_value = option (both (one x.Assign) value)

-- ---- sections of variables

unfoldable pub address : Form
address = option (both (one x.At) (one x.Address))

unfoldable pub item : Form
item = both names (both address (both (one x.Colon) (both type_spec (both start_value (one x.Semicolon)))))

-- behind the word of a section: words, and the items
unfoldable pub section_words : Form
section_words = several (one_of is_section_word x.Constant refl)

unfoldable pub keep_words : Form
keep_words = several (one_of is_keep x.Constant refl)

unfoldable pub items : Form
items = several item

unfoldable pub vars : Form
vars = both (one_of is_section x.Var refl) (both section_words (both items (one x.EndVar)))

unfoldable pub globals : Form
globals = both (one x.VarGlobal) (both keep_words (both items (one x.EndVar)))

unfoldable pub sections : Form
sections = several vars

unfoldable pub global_sections : Form
global_sections = several globals

-- ---- types

unfoldable pub field_group : Form
field_group = both names (both (one x.Colon) (both type_spec (both start_value (one x.Semicolon))))

unfoldable pub enumeration : Form
enumeration = both (one x.Open) (both names (both (one x.Close) (one x.Semicolon)))

unfoldable pub structure : Form
structure = both (one x.Struct) (both (several field_group) (both (one x.EndStruct) (may x.Semicolon)))

unfoldable pub alias : Form
alias = both type_spec (one x.Semicolon)

unfoldable pub type_body : Form
type_body = either enumeration (either structure alias)

unfoldable pub type_decl : Form
type_decl = both word (both (one x.Colon) type_body)

unfoldable pub types : Form
types = both (one x.Type) (both (several type_decl) (one x.EndType))

-- ---- interfaces and classes

unfoldable pub prototype : Form
prototype = both (one x.Method) (both word (both result (both (may x.Semicolon) (both sections (one x.EndMethod)))))

unfoldable pub extended : Form
extended = option (both (one x.Extends) names)

unfoldable pub interface : Form
interface = both (one x.Interface) (both word (both extended (both (several prototype) (one x.EndInterface))))

unfoldable pub method_words : Form
method_words = several (one_of is_method_word x.Abstract refl)

unfoldable pub method : Form
method = both (one x.Method) (both method_words (both word (both result (both (may x.Semicolon) (both sections (body x.EndMethod tt (refl, tt)))))))

unfoldable pub member : Form
member = either method vars

unfoldable pub members : Form
members = several member

unfoldable pub base : Form
base = option (both (one x.Extends) word)

unfoldable pub implemented : Form
implemented = option (both (one x.Implements) names)

unfoldable pub class_words : Form
class_words = several (one_of is_class_word x.Abstract refl)

unfoldable pub head : Form
head = both class_words (both word (both base implemented))

unfoldable pub class : Form
class = both (one x.Class) (both head (both members (one x.EndClass)))

unfoldable pub block : Form
block = both (one x.FunctionBlock) (both head (both members (body x.EndFunctionBlock tt (refl, tt))))

-- ---- functions, programs, configurations

unfoldable pub function : Form
function = both (one x.Function) (both word (both result (both (may x.Semicolon) (both sections (body x.EndFunction tt (refl, tt))))))

unfoldable pub program : Form
program = both (one x.Program) (both word (both sections (body x.EndProgram tt (refl, tt))))

unfoldable pub setting_value : Form
setting_value = either (one x.Int) (one x.Duration)

unfoldable pub setting : Form
setting = both word (both (one x.Assign) setting_value)

unfoldable pub settings : Form
settings = option (list_of setting)

unfoldable pub task : Form
task = both (one x.Task) (both word (both (one x.Open) (both settings (both (one x.Close) (one x.Semicolon)))))

unfoldable pub instance : Form
instance = both (one x.Program) (both word (both (one x.With) (both word (both (one x.Colon) (both word (one x.Semicolon))))))

unfoldable pub tasks : Form
tasks = both (several task) (several instance)

unfoldable pub resource : Form
resource = both (one x.Resource) (both word (both (one x.On) (both word (both global_sections (both tasks (one x.EndResource))))))

unfoldable pub inner : Form
inner = either resource tasks

unfoldable pub configuration : Form
configuration = both (one x.Configuration) (both word (both global_sections (both inner (one x.EndConfiguration))))

unfoldable pub declaration : Form
declaration = either types (either globals (either interface (either class (either block (either function (either program configuration))))))

unfoldable pub unit : Form
unit = several declaration
