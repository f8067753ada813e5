pub mod CallStatements
