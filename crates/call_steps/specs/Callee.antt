-- The code's callees as the meaning's.
use Rattle.call_steps.specs.declared.callee.Callee.{Callee as CodeCallee}
use Rattle.call_steps.specs.declared.callee.Callee.TheVariants as code
use Rattle.call_steps.specs.declared.callee.Search.{Search as CodeSearch}
use Rattle.call_steps.specs.declared.callee.Search.TheVariants as search
use Rattle.st_meaning.specs.Call.{Search, by_instance, from_class, Callee, a_conversion, a_function, a_method, a_body}

abbrev pub search_seen : CodeSearch → Search
search_seen search.ByInstance = by_instance
search_seen (search.FromClass c) = from_class c

abbrev pub callee_seen : CodeCallee → Callee
callee_seen code.Conversion = a_conversion
callee_seen (code.Function k) = a_function k
callee_seen (code.Method s name) = a_method (search_seen s) name.now
callee_seen (code.Body s) = a_body (search_seen s)
