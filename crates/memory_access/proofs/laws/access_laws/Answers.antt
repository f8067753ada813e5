use Rattle.memory_access.proofs.Copies.{place_bytes, place_put}
use Rattle.memory_access.proofs.laws.access_laws.Goals as goal

pub returns : goal.returns
returns c = record {
  reads = λ p base is_held now ks spot l m s h e w. place_bytes p base is_held now ks spot l m s h e w;
  writes = λ p base is_held now ks spot l v bytes m s h e w long spells. place_put p base is_held now ks spot l v bytes m s h e w long spells;
}
