mod WrittenFacts
